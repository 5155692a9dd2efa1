-- What the contracts cite beside the machine: an outcome that changes nothing (`Untouched`).
pub mod Untouched
