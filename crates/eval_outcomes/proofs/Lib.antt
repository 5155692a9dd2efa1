-- Laws for those who call the functions. Assume nothing.
pub mod Stops
pub mod Taking
