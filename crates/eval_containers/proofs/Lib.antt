-- Laws for those who call: a record in the making, a step at a time, is the machine's. Assume nothing.
pub mod FillingLaws
