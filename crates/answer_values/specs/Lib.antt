-- What the contracts cite, of what is read off a value: its kind, and a Bool (`Kinds`); its number (`Numbers`); where its text lies, and how many
-- parts it has (`SpansAndCounts`); elements, and what an Optional holds (`Elements`); keys and values of a Map (`Entries`). What the readers show
-- of a value together (`Shown`).
pub mod Kinds
pub mod Numbers
pub mod SpansAndCounts
pub mod Elements
pub mod Entries
pub mod Shown
