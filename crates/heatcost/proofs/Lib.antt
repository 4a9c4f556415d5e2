-- What the proofs share.
mod YearList
