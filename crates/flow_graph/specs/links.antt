pub mod SetCapacity
