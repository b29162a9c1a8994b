pub mod Public
mod KnownStarts
mod Origins
mod WholeAttempts
mod StepBisimulation
mod GraphRuns
mod GraphConfigs
mod Nodes
mod Region
mod AttemptNaming
mod AttemptReads
mod AttemptsStayInRegion
mod RegionEndCleans
mod GraphFollowsSource
mod Paths
mod ExecutionsStayInRegion
mod Worked
