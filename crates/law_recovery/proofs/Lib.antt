mod Rule
mod Chains
mod Sweeps
