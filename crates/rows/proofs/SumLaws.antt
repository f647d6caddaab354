-- The loop that adds neighbours up, and what it makes of sorted places: the row. Assumes nothing.
use Prim.Native.Nat.{ℕ, zero, suc, ◌+◌, ◌≤◌, ◌<◌}
use native.Mathlib.Numerals.{add-one}
use native.Mathlib.Omega.{arith}
use mathlib.Core.Path.{◌≡◌, refl, sym, ap, ◌∙◌, subst}
use mathlib.Core.List.{List, [], ◌∷◌, ◌++◌, map, append_assoc, map-append}
use lib.ListN.{length, get_or, drop, drop_of_length-le, length-append}
use lib.Seq.{drop-cons}
use Rattle.sorted_lists.specs.Sorting.{All}
use Rattle.rows.specs.Pairs.{pair, pairs}
use Rattle.rows.specs.Plus.{plus}
use Rattle.rows.specs.declared.Entry.{Entry}
use Rattle.rows.specs.Neighbours.{added_from, neighbours_added}
use Rattle.rows.proofs.NeighbourLaws.{added-same, added_next, added_last}

-- what holds of all holds at each place
pub all_here : {A : Type 0} (P : A → Type 0) (l : List A) (i : ℕ) (d : A) → All P l → i < length l → P (get_or l i d)
all_here P [] i d a h = absurd (omega arith)
all_here P (x ∷ l) zero d a h = a.0
all_here P (x ∷ l) (suc i) d a h = all_here P l i d a.1 (omega arith)

-- the entries that f reads
abbrev pub Reads : {V : Type 0} → (ℕ → ℕ × V) → List (Entry V) → Type 0
Reads f es = (p : ℕ) (d : Entry _) → p < length es → f p ≡ pair (get_or es p d)

module _ {N : Type 0} (sum : N → N → N) where
  -- all, neighbours of one column added up, are what is stored, and the sum begun with the entries left
  pub record Adding (all stored : List (ℕ × N)) (last : ℕ × N) (left : List (ℕ × N)) : Type 0 where
    pub shape : stored ++ added_from sum last left ≡ neighbours_added sum all

  pub adding_first : (e : ℕ × N) (l : List (ℕ × N)) → Adding (e ∷ l) [] e l
  unfolding neighbours_added
  adding_first e l = record { shape = refl }

  module _ {all stored : List (ℕ × N)} {last : ℕ × N} where
    pub adding_same : (e : ℕ × N) (l : List (ℕ × N)) → Adding all stored last (e ∷ l) → e.0 ≡ last.0 → Adding all stored (last.0, sum last.1 e.1) l
    adding_same e l a h = record { shape = ap (λ m. stored ++ m) (sym (added-same sum last e l h)) ∙ a.shape }

    pub adding_next : (e : ℕ × N) (l : List (ℕ × N)) → Adding all stored last (e ∷ l) → (e.0 ≡ last.0 → ⊥) → Adding all (stored ++ last ∷ []) e l
    adding_next e l a h =
        record { shape = append_assoc stored (last ∷ []) (added_from sum e l) ∙ ap (λ m. stored ++ m) (sym (added_next sum last e l h)) ∙ a.shape }

    pub adding_done : Adding all stored last [] → stored ++ last ∷ [] ≡ neighbours_added sum all
    adding_done a = ap (λ m. stored ++ m) (sym (added_last sum last)) ∙ a.shape

-- ---- the loop over places

module _ {V : Type 0} (sum : V → V → V) (es : List (Entry V)) where
  -- what f reads at a place is the entry that code reads there
  read_at : (f : ℕ → ℕ × V) → Reads f es → (p : ℕ) (e : Entry V) → p < length es → e ≡ get_or es p e → f p ≡ pair e
  read_at f reads p e h is = reads p e h ∙ ap pair (sym is)

  -- what is stored of the places before i of the rest, with the sum begun
  pub record Summing (places rest : List ℕ) (stored : List (Entry V)) (last : Entry V) (i : ℕ) : Type 0 where
    pub few : length stored ≤ i
    pub sums : (f : ℕ → ℕ × V) → Reads f es → Adding sum (map f places) (pairs stored) (pair last) (map f (drop i rest))

  module _ {places : List ℕ} {first : ℕ} {rest : List ℕ} (split : places ≡ first ∷ rest) (inside : All (λ p. p < length es) places) where
    all_split : (first < length es) × All (λ p. p < length es) rest
    all_split = subst (All (λ p. p < length es)) split inside

    pub summing_first : {stored : List (Entry V)} (e : Entry V) → stored ≡ [] → e ≡ get_or es first e → Summing places rest stored e 0
    summing_first {stored} e s is =
        record {
          few = omega (arith, ap length s);
          sums = λ f reads.
              subst
              (λ l. Adding sum (map f l) (pairs stored) (pair e) (map f rest))
              (sym split)
              (rw (s, read_at f reads first e all_split.0 is) (adding_first sum (pair e) (map f rest)));
        }

    module _ {stored : List (Entry V)} {last : Entry V} {i : ℕ} (t : Summing places rest stored last i) (e : Entry V) (h : i < length rest) (is : e ≡ get_or es (get_or rest i 0) e) where
      next_left : (f : ℕ → ℕ × V) → Reads f es → map f (drop i rest) ≡ pair e ∷ map f (drop (i + 1) rest)
      next_left f reads =
          ap (map f) (drop-cons rest i 0 h ∙ ap (λ (k : ℕ). get_or rest i 0 ∷ drop k rest) (sym (add-one i)))
          ∙ ap (λ x. x ∷ map f (drop (i + 1) rest)) (read_at f reads (get_or rest i 0) e (all_here (λ p. p < length es) rest i 0 all_split.1 h) is)

      pub summing_same : (new : Entry V) → e.column ≡ last.column → new ≡ plus sum last e.value → Summing places rest stored new (i + 1)
      summing_same new c n =
          record {
            few = omega (arith, t.few);
            sums = λ f reads.
                rw n (adding_same sum (pair e) (map f (drop (i + 1) rest)) (subst (Adding sum (map f places) (pairs stored) (pair last)) (next_left f reads) (t.sums f reads)) c);
          }

      pub summing_next : {stored' : List (Entry V)} → (e.column ≡ last.column → ⊥) → stored' ≡ stored ++ last ∷ [] → Summing places rest stored' e (i + 1)
      summing_next {stored'} c s =
          record {
            few = omega (arith, t.few, ap length s, length-append stored (last ∷ []));
            sums = λ f reads.
                subst
                (λ l. Adding sum (map f places) l (pair e) (map f (drop (i + 1) rest)))
                (sym (ap pairs s ∙ map-append pair stored (last ∷ [])))
                (adding_next sum (pair e) (map f (drop (i + 1) rest)) (subst (Adding sum (map f places) (pairs stored) (pair last)) (next_left f reads) (t.sums f reads)) c);
          }

    pub summing_done : {stored stored' : List (Entry V)} {last : Entry V} {i : ℕ} → Summing places rest stored last i → length rest ≤ i → stored' ≡ stored ++ last ∷ []
        → (f : ℕ → ℕ × V) → Reads f es → pairs stored' ≡ neighbours_added sum (map f places)
    summing_done {stored} {last = last} {i = i} t h s f reads =
        ap pairs s ∙ map-append pair stored (last ∷ [])
        ∙ adding_done sum (subst (λ l. Adding sum (map f places) (pairs stored) (pair last) (map f l)) (drop_of_length-le rest h) (t.sums f reads))
