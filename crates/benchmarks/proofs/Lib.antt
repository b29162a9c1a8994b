mod NoPoints
mod RunSeats
