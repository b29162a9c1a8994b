-- What links code to the definitions: nobody has to believe it.
pub mod KnownNames
