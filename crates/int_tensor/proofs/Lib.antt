mod Residues
mod Garner
mod Quotients
mod Exact
