pub mod Public
mod Stops
mod BoardEvents
mod OwnEvictions
mod RunSeats
mod Parts
mod BoardLegs
mod Rounds
mod BoardEnds
mod DrivenLegs
mod PointsInOrder
