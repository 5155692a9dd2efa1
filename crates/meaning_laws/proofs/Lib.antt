-- Theorems on the definition of evaluation, one subject a file.

-- what a rule does not name cannot change its answer or its counts
pub mod Names
pub mod Congruence
pub mod Seen
pub mod Agreement
pub mod Bystanders
pub mod NamesListed
-- exhaustion comes exactly at the first charge that would pass its limit, and every table gets one answer
pub mod Spending
pub mod Exhausted
pub mod Filled
pub mod Answers
-- nothing turns exhaustion into another answer
pub mod Opening
pub mod BegunOperands
pub mod BegunParts
pub mod BegunItems
pub mod Begun
pub mod LookWritten
pub mod BegunCovers
pub mod BegunExamples
pub mod NotBegun
-- .. and the list of operands that are begun is complete
pub mod CoveredSteps
pub mod OwnSteps
pub mod StepOrigins
pub mod StepOperands
pub mod StepParts
pub mod StepItems
pub mod StepComprehension
pub mod EveryStep
pub mod StepsExactly
-- the values that can occur are well formed: what is kept, and by which rule
pub mod SoundNumbers
pub mod MatchingKeys
pub mod Fine
pub mod Kept
pub mod KeptNumbers
pub mod KeptRules
pub mod KeptContainers
pub mod KeptLoop
pub mod KeptEvaluation
pub mod KeptLimits
-- where values come from: tables and bindings
pub mod Reading
pub mod TableNumbers
pub mod TableFormed
pub mod Spelled
pub mod SpelledRuns
pub mod SpelledReasons
pub mod BindingsFormed
pub mod BoundValues
pub mod BoundExample
-- whole answers, and why they need limits
pub mod AnswersFormed
pub mod LimitsNeeded
-- the reader of tables loses nothing and invents nothing
pub mod TableBytes
pub mod TableKinds
pub mod TableHeads
pub mod TableForms
pub mod ReadBack
pub mod TableTold
pub mod NothingInvented
pub mod WrittenPlaces
pub mod RefusalPlaces
pub mod WrittenExample
