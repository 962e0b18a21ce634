mod TagStarts
mod CoverStarts
