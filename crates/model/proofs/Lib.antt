-- The laws about the definitions, each with what it leans on before it. docs/ARCHITECTURE.md says which law stands where.

-- what the laws are made with
pub mod Lists
pub mod Computed
pub mod ByteStrings
pub mod Numerals
pub mod MapBits
pub mod Steps
pub mod Gives
pub mod Layouts
pub mod Equivalences
pub mod SameBytes
pub mod Flags
-- P1 to P12
pub mod Trials
-- reading and writing
pub mod Alike
pub mod Items
pub mod Exact
pub mod WellFormed
pub mod Whole
pub mod ReadsBack
pub mod WholeSheets
-- calls
pub mod Calls
pub mod ProgramLine
pub mod Refusals
pub mod Places
pub mod Behind
-- the other operations
pub mod Look
pub mod Search
pub mod Unions
pub mod Projection
pub mod Entries
pub mod Unseen
pub mod Normalized
pub mod Flattened
pub mod LeafCount
pub mod FilterKeeps
-- merging
pub mod SortedMetadata
pub mod Modes
pub mod MergeKeeps
pub mod ModesAgree
pub mod Size
pub mod NothingLost
pub mod GrownAt
pub mod Grows
pub mod GrownTwice
pub mod Standing
pub mod MergeAnswers
pub mod Demand3
pub mod Demand3Instances
-- document 02, Item 1
pub mod Containment
pub mod ContainmentInstances
pub mod SavedAnswer
pub mod SavedAnswerInstances
