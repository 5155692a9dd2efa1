-- What the contracts cite: what lent memory holds at first (`BeforeRun`), and what it must hold after an evaluation (`AfterRun`).
pub mod BeforeRun
pub mod AfterRun
