-- Condition 3: for any two lists of calls, the exact rows of the two systems agree at every row exactly when the plain book ends the same for
-- both. Document 01, `The book for condition 3`. Here are the statements; their proofs are `condition_3` and `condition_3_handed_in` in
-- proofs/Condition3Theorem and `rows_delivered` in proofs/Delivered.
use Rattle.std.specs.Prelude.{ℕ, ◌*◌, ◌^◌, ◌≤◌, ◌<◌, ◌≡◌, Bool, true, not, ◌&&◌, List, ◌↔◌, leb}
use Rattle.std.specs.Float.Ieee.{eq}
use Rattle.refusal.specs.Refusals.{gives, done}
use Rattle.letters.specs.Gauss.{G}
use Rattle.complex.specs.declared.Complex.{Complex}
use Rattle.complex.specs.Wholes.{both_whole}
use Rattle.items.specs.Record.{reach, same_items, same_key}
use Rattle.row_entries.specs.Answers.{most_spins}
use Rattle.terms.specs.Keyed.{has, each}
use Rattle.noise_sets.specs.Pairs.{is_empty}
use Rattle.open_system.specs.declared.PauliLindbladOpenSystem.{PauliLindbladOpenSystem}
use Rattle.open_system.specs.Grouping.{valid_system, group_answer}
use Rattle.exact_rows.specs.ExactRows.{exact_row, exact_row_entries}
use Rattle.condition3.specs.Calls.{Call, sets_after, calls_that_set}
use Rattle.condition3.specs.ReferenceModel.{Line, on_line, Model, model_after}

-- ---- the premises of the tender's condition 3, said of the lines that a system holds; document 01: "What a system holds is the lines of its book"

-- what numbers 7, 8 and 11 let pass; the tender: "only coefficients whose parts are whole and at most 2^40 in size", and a "number of spins up
-- to 31 that is above every site they hold"
pub record Deliverable (n : ℕ) (m : Model) : Type 0 where
  pub spins : n ≤ most_spins
  pub hamiltonian_sites : each (λ x xs. leb (reach x.0) n) m.hamiltonian ≡ true
  pub noise_sites : each (λ x xs. leb (reach x.0.0) n && leb (reach x.0.1) n) m.noise ≡ true
  pub hamiltonian_whole : each (λ x xs. both_whole x.1) m.hamiltonian ≡ true
  pub noise_whole : each (λ x xs. both_whole x.1) m.noise ≡ true

-- "and no Hamiltonian term on the empty product", which commutes with everything
pub record Premises (n : ℕ) (m : Model) : Type 0 where
  pub deliverable : Deliverable n m
  pub no_empty_product : each (λ x xs. not (is_empty x.0)) m.hamiltonian ≡ true

-- ---- the same lines

-- "parts that are equal as numbers, +0 and -0 alike"
unfoldable pub same_parts : Complex → Complex → Bool
same_parts x y = eq x.re y.re && eq x.im y.im

-- there is a line with the key k
abbrev pub has_line : {K : Type 0} → (K → K → Bool) → K → List (Line K) → Bool
has_line same k l = has (λ x. same x.0 k) l

-- "Pages are the same when they have the same keys and, under each, parts that are equal as numbers"
pub record SameLines {K : Type 0} (same : K → K → Bool) (l m : List (Line K)) : Type 0 where
  pub keys : (k : K) → has_line same k l ≡ has_line same k m
  pub parts : (k : K) → has_line same k l ≡ true → same_parts (on_line same k l) (on_line same k m) ≡ true

pub record SameModel (a b : Model) : Type 0 where
  pub hamiltonian : SameLines same_items a.hamiltonian b.hamiltonian
  pub noise : SameLines same_key a.noise b.noise

-- ---- rows

-- "Exact rows agree at a row when the sums above give both systems the same columns with the same two parts in each"; "Every row means 0 to
-- d·d - 1"
unfoldable pub RowsAgree : ℕ → PauliLindbladOpenSystem → PauliLindbladOpenSystem → Type 0
RowsAgree n s t = (r : ℕ) → r < 2 ^ n * 2 ^ n → exact_row_entries s n r ≡ exact_row_entries t n r

-- "`group` then makes the system"
unfoldable pub system_after : List Call → PauliLindbladOpenSystem
system_after calls = (group_answer (sets_after calls).hamiltonian (record { set = (sets_after calls).noise })).1

-- and no list makes it refuse
abbrev pub GroupAccepts : Type 0
GroupAccepts = (calls : List Call) → (group_answer (sets_after calls).hamiltonian (record { set = (sets_after calls).noise })).0 ≡ done

-- ---- one claim about two whole lists

abbrev pub Condition3 : Type 0
Condition3 =
    (a b : List Call) (n : ℕ) → Premises n (model_after a) → Premises n (model_after b)
    → RowsAgree n (system_after a) (system_after b) ↔ SameModel (model_after a) (model_after b)

-- ---- the same where either system is handed in

-- a system: made by calls, or handed in and let pass by number 0
pub data Source : Type 0 where
  made : List Call → Source
  handed_in : (s : PauliLindbladOpenSystem) → valid_system s ≡ true → Source

abbrev pub system_of : Source → PauliLindbladOpenSystem
system_of (made calls) = system_after calls
system_of (handed_in s v) = s

-- "stands for the list that sets its terms in their order"
abbrev pub calls_of : Source → List Call
calls_of (made calls) = calls
calls_of (handed_in s v) = calls_that_set s.system s.noise.set

abbrev pub Condition3HandedIn : Type 0
Condition3HandedIn =
    (x y : Source) (n : ℕ) → Premises n (model_after (calls_of x)) → Premises n (model_after (calls_of y))
    → RowsAgree n (system_of x) (system_of y) ↔ SameModel (model_after (calls_of x)) (model_after (calls_of y))

-- ---- what the call delivers

-- row r of the system s, which holds the lines of m: the exact row call gives l exactly if numbers 7, 8 and 11 and, for the row, 9 let it pass
-- and l is the list that is compared
abbrev pub RowDelivered : Model → PauliLindbladOpenSystem → ℕ → ℕ → List (ℕ × G) → Type 0
RowDelivered m s n r l = (Deliverable n m × (r < 2 ^ n * 2 ^ n) × (l ≡ exact_row_entries s n r)) ↔ (exact_row s n r ≡ gives l)

-- "this is what the exact row call delivers wherever the buffers hold it"
abbrev pub RowsDelivered : Type 0
RowsDelivered = (x : Source) (n r : ℕ) (l : List (ℕ × G)) → RowDelivered (model_after (calls_of x)) (system_of x) n r l
