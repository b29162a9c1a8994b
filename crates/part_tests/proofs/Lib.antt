mod EnabledHarts
mod NoPoints
mod TwoSeats
