-- What the contracts cite: what each function returns and leaves in lent memory, of the module `intake` (`Intake`) and of `readout` (`ReadOut`).
pub mod Intake
pub mod ReadOut
