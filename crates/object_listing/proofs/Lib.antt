mod CodeLimits
mod WorkedListing
