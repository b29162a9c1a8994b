mod AddedBytes
mod TakenBytes
