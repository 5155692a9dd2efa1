-- The definition of what a rule means, in the order in which it is read.
-- To read it: a name has a type behind `:`, and then an equation for each case. `f a b` is f of a and b, `λ x. e` the function that gives e,
-- `A × B` a pair with the parts `.0` and `.1`, `x ∷ xs` a list, `r.field` a record's field. In a `do` each line `x ← r` goes on only if r
-- gives something, and calls it x. `cond b x y` is x if b is true and else y; `eqb`, `leb` and `ltb` test numbers for =, ≤ and <. Below
-- `module _ (x : A) where` everything is about any such x; under `mutual` definitions use each other; `data` lists the cases of a type.
-- `suc n` is n + 1, `xs ++ ys` one list behind the other, `{..}` an argument that is found by itself, `Unit` what always holds.
-- `unfoldable`, `abbrev` and `pub` say what proofs may see, and nothing of the meaning.

-- what there is: limits and counts, errors and refusals, values, expressions, runs
pub mod Options
pub mod Limits
pub mod Errors
pub mod Value
pub mod Expr
pub mod Run
-- the rules of single records
pub mod Numbers
pub mod Comparison
pub mod Maps
pub mod Optionals
pub mod Selection
pub mod Logic
pub mod Calls
pub mod Containers
pub mod Comprehension
-- evaluation, without limits and under them
pub mod Look
pub mod Meaning
pub mod Limited
-- the node table
pub mod Kinds
pub mod Heads
pub mod Table
-- what can be read off an expression
pub mod Listing
-- bindings
pub mod Spelling
pub mod Bindings
-- the whole answer, and the values that can occur in it
pub mod Answer
pub mod WellFormed
-- worked examples, as rows
pub mod Rows
