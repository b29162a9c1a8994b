-- What links the code of a thread's step to the step of the graph: nobody has to believe it.
pub mod StepChanges
pub mod GraphThreads
