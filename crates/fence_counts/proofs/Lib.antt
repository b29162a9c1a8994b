mod UnbalancedLogs
mod FencesAlong
mod EndedThreads
mod KeptEnds
mod LoggedPassages
mod PassagesAlong
mod Worked
