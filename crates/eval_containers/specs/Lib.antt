-- What the contracts cite beside the machine: a List or a Map record in the making.
pub mod Filling
