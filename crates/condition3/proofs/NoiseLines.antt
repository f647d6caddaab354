-- Calls on a noise set: it stays valid, and its terms are the lines that the reference model has after the call.
-- Assumes nothing.
use Prim.Native.Nat.{◌≤◌}
use mathlib.Core.Path.{◌≡◌, refl, sym, ap, ◌∙◌}
use mathlib.Core.Bool.{Bool, true, false, not, ◌&&◌, ◌||◌, cond, true≢false}
use mathlib.Core.List.{List, [], ◌∷◌, ◌++◌, map}
use mathlib.Core.Option.{Option, some}
use Rattle.refusal.specs.Refusals.{Said, gives, refuses}
use lib.Dec.{eqb}
use lib.ListN.{length}
use Rattle.items.proofs.SameLaws.{same_key-equal}
use Rattle.items.specs.Record.{same_key}
use Rattle.letters.proofs.TestLaws.{and_true, and_left, and_false}
use Rattle.complex.specs.Complex.{is_zero, in_range}
use Rattle.complex.specs.declared.Complex.{Complex}
use Rattle.terms.specs.Keyed.{each, concat_map}
use Rattle.terms.specs.Setting.{most_terms, add_all}
use Rattle.terms.specs.Chains.{full_terms}
use Rattle.terms.specs.Entries as entries
use Rattle.terms.proofs.KeyedLaws.{map_append}
use Rattle.terms.proofs.EachLaws.{each_follows}
use Rattle.term_sets.specs.Complexes.{complex_terms, complex_products, Term, TermSet}
use Rattle.term_sets.specs.Complexes as operators
use Rattle.noise_sets.specs.Pairs.{Key, pair_terms, is_empty, held_by, good_coefficient, valid_set, NoiseTerm, NoiseSet}
use Rattle.noise_sets.specs.Answers.{valid_key, empty_side, set_pair, add_pair, all_in_range, ended}
use Rattle.full_operators.specs.FullAnswers.{add_full_operators}
use Rattle.terms.proofs.FilledLaws.{held-filled}
use Rattle.noise_sets.proofs.SetLaws.{noise_sets}
use Rattle.terms.proofs.ValidSetLaws as valid_sets
use Rattle.noise_sets.proofs.ValidLaws.{valid_noise_sets}
use Rattle.noise.proofs.NoiseValidAnswers as answers
use Rattle.condition3.specs.ReferenceModel.{Line, write_line, add_line, add_lines, unless_full, lines_in_range, unless_refused, lawful_pair, lawful_operators, full_lines}
use Rattle.condition3.proofs.LineLaws.{line_of, lines_of, Faithful, lines_if, lines_add_all}
use Rattle.condition3.proofs.AnswerLaws.{past, unless, either}
use Rattle.condition3.proofs.WrittenLines.{arguments_refused, range_refused, call_accepted, range_is}
use Rattle.condition3.proofs.SetLines.{set_lines, add_lines_lem}

-- the two parts of a complex coefficient
abbrev pub itself : Complex → Complex
itself z = z

abbrev pub noise_lines : NoiseSet → List (Line Key)
noise_lines s = lines_of pair_terms itself (held_by s)

pairs_faithful : Faithful pair_terms itself
pairs_faithful = record { same = same_key-equal; key_of = λ k a. refl; coefficient_of_lem = λ k a. refl; zero = refl; sum = λ a b. refl; is_zero = λ a. refl }

module _ (s : NoiseSet) (v : valid_set s ≡ true) where
  few : length (held_by s) ≤ most_terms
  few = valid_sets.valid-few valid_noise_sets s v

  -- the terms are in range
  ranges : each (λ t ts. in_range t.coefficient) (held_by s) ≡ true
  ranges = each_follows (λ t ts. good_coefficient t.coefficient) (λ t ts. in_range t.coefficient)
      (λ t ts e. and_left (in_range t.coefficient) (not (is_zero t.coefficient)) e) (held_by s) (valid_sets.valid-coefficients valid_noise_sets s v)

  module _ (k : Key) (a : Complex) where
    -- its arguments are refused, or not
    bad_product : valid_key k ≡ false → lawful_pair k a ≡ false
    unfolding lawful_pair
    bad_product e = ap (λ b. b && (not (empty_side k) && in_range a)) e

    bad_side : empty_side k ≡ true → lawful_pair k a ≡ false
    unfolding lawful_pair
    bad_side e = and_false (valid_key k) (not (empty_side k) && in_range a) (ap (λ b. not b && in_range a) e)

    bad_value : in_range a ≡ false → lawful_pair k a ≡ false
    unfolding lawful_pair
    bad_value e = and_false (valid_key k) (not (empty_side k) && in_range a) (and_false (not (empty_side k)) (in_range a) e)

    good_arguments : valid_key k ≡ true → empty_side k ≡ false → in_range a ≡ true → lawful_pair k a ≡ true
    unfolding lawful_pair
    good_arguments w e r = and_true w (and_true (ap not e) r)

    pub set_pair-valid : valid_set (set_pair s k a).1 ≡ true
    set_pair-valid = either (λ x. valid_set x ≡ true) s (set_pair s k a) (answers.set_valid s k a) (answers.set_refused s k a) v

    pub add_pair-valid : valid_set (add_pair s k a).1 ≡ true
    add_pair-valid = either (λ x. valid_set x ≡ true) s (add_pair s k a) (λ o. answers.add_valid s k a) (answers.add_refused s k a) v

    pub set_pair_lines : noise_lines (set_pair s k a).1 ≡ unless_refused (lawful_pair k a) (unless_full (write_line same_key k a (noise_lines s))) (noise_lines s)
    unfolding set_pair
    set_pair_lines =
        past P (valid_set s) _ _ _ _ (λ e. absurd (true≢false (sym v ∙ e))) (λ u.
        past P (valid_key k) _ _ _ _ (λ e. sym (arguments_refused (lawful_pair k a) (noise_lines s) (bad_product e) _)) (λ w.
        unless P (empty_side k) _ _ _ _ (λ e. sym (arguments_refused (lawful_pair k a) (noise_lines s) (bad_side e) _)) (λ n.
        set_lines pair_terms itself pairs_faithful noise_sets in_range (λ z. refl) s k a few ranges (lawful_pair k a) bad_value (good_arguments w n) _)))
      where
        P : NoiseSet → Type 0
        P x = noise_lines x ≡ unless_refused (lawful_pair k a) (unless_full (write_line same_key k a (noise_lines s))) (noise_lines s)

    pub add_pair_lines : noise_lines (add_pair s k a).1 ≡ unless_refused (lawful_pair k a) (unless_full (add_line same_key k a (noise_lines s))) (noise_lines s)
    unfolding add_pair
    add_pair_lines =
        past P (valid_set s) _ _ _ _ (λ e. absurd (true≢false (sym v ∙ e))) (λ u.
        past P (valid_key k) _ _ _ _ (λ e. sym (arguments_refused (lawful_pair k a) (noise_lines s) (bad_product e) _)) (λ w.
        unless P (empty_side k) _ _ _ _ (λ e. sym (arguments_refused (lawful_pair k a) (noise_lines s) (bad_side e) _)) (λ n.
        add_lines_lem pair_terms itself pairs_faithful noise_sets in_range (λ z. refl) s k a few ranges (lawful_pair k a) bad_value (good_arguments w n))))
      where
        P : NoiseSet → Type 0
        P x = noise_lines x ≡ unless_refused (lawful_pair k a) (unless_full (add_line same_key k a (noise_lines s))) (noise_lines s)

-- ---- full operators

-- the lines of the pairs of two operators' terms
line_pair : (p q : Bool) (x : NoiseTerm) → lines_of pair_terms itself (cond (not p && not q) (x ∷ []) []) ≡ cond (p || q) [] (lines_of pair_terms itself (x ∷ []))
line_pair true q x = refl
line_pair false true x = refl
line_pair false false x = refl

-- lines of results one after the other
lines_concat : {A : Type 0} (f : A → List NoiseTerm) (g : A → List (Line Key)) → ((x : A) → lines_of pair_terms itself (f x) ≡ g x) → (l : List A) → lines_of pair_terms itself (concat_map f l) ≡ concat_map g l
unfolding concat_map
lines_concat f g h [] = refl
lines_concat f g h (x ∷ l) = map_append (line_of pair_terms itself) (f x) (concat_map f l) ∙ (λ j. h x j ++ lines_concat f g h l j)

full_lines_lem : (z : Complex) (l r : List Term) → lines_of pair_terms itself (full_terms complex_terms pair_terms complex_products is_empty z l r) ≡ full_lines z l r
unfolding full_terms full_lines
full_lines_lem z l r = lines_concat _ _ (λ x. lines_concat _ _ (λ y. line_pair (is_empty x.key) (is_empty y.key) _) r) l

module _ (s : NoiseSet) (l r : TermSet) (z : Complex) (v : valid_set s ≡ true) where
  -- the terms that the call adds, and what they make of the lines
  abbrev terms : List NoiseTerm
  terms = full_terms complex_terms pair_terms complex_products is_empty z (operators.held_by l) (operators.held_by r)

  abbrev lines : Option (List (Line Key))
  lines = add_lines same_key (full_lines z (operators.held_by l) (operators.held_by r)) (noise_lines s)

  lines_are : lines_if pair_terms itself pairs_faithful (add_all pair_terms (map gives terms) (held_by s)) ≡ lines
  lines_are = lines_add_all pair_terms itself pairs_faithful terms (held_by s) (few s v) ∙ ap (λ m. add_lines same_key m (noise_lines s)) (full_lines_lem z (operators.held_by l) (operators.held_by r))

  abbrev lawful : Bool
  lawful = lawful_operators l r z

  abbrev empty : Bool
  empty = eqb l.count 0 || eqb r.count 0

  bad_left : operators.valid_set false l ≡ false → lawful ≡ false
  unfolding lawful_operators
  bad_left e = ap (λ b. (b && operators.valid_set false r) && (not empty && in_range z)) e

  bad_right : operators.valid_set false r ≡ false → lawful ≡ false
  unfolding lawful_operators
  bad_right e = ap (λ b. b && (not empty && in_range z)) (and_false (operators.valid_set false l) (operators.valid_set false r) e)

  no_terms : empty ≡ true → lawful ≡ false
  unfolding lawful_operators
  no_terms e = and_false (operators.valid_set false l && operators.valid_set false r) (not empty && in_range z) (ap (λ b. not b && in_range z) e)

  bad_number : in_range z ≡ false → lawful ≡ false
  unfolding lawful_operators
  bad_number e = and_false (operators.valid_set false l && operators.valid_set false r) (not empty && in_range z) (and_false (not empty) (in_range z) e)

  good_operators : operators.valid_set false l ≡ true → operators.valid_set false r ≡ true → empty ≡ false → in_range z ≡ true → lawful ≡ true
  unfolding lawful_operators
  good_operators a b c d = and_true (and_true a b) (and_true (ap not c) d)

  -- the chain's end
  chain_lines : lawful ≡ true → (o : Said (List NoiseTerm)) → noise_lines (ended s o).1 ≡ unless_refused lawful (lines_if pair_terms itself pairs_faithful o) (noise_lines s)
  unfolding entries.ended unless_refused
  chain_lines g (refuses n k) = refl
  chain_lines g (gives m) =
      past (λ x. noise_lines x ≡ unless_refused lawful (some (lines_of pair_terms itself m)) (noise_lines s)) (all_in_range m) _ _ _ _
      (λ e. sym (range_refused lawful (noise_lines s) (lines_of pair_terms itself m) (range m ∙ e)))
      (λ e. ap (lines_of pair_terms itself) (held-filled noise_sets m) ∙ sym (call_accepted lawful (noise_lines s) (lines_of pair_terms itself m) g (range m ∙ e)))
    where
      range : (m : List NoiseTerm) → lines_in_range (lines_of pair_terms itself m) ≡ all_in_range m
      range m = unfold entries.all_in_range in range_is pair_terms itself m

  pub full_set_valid : valid_set (add_full_operators s l r z).1 ≡ true
  full_set_valid = either (λ x. valid_set x ≡ true) s (add_full_operators s l r z) (λ o. answers.full_valid s l r z) (answers.full_refused s l r z) v

  pub full_set_lines : noise_lines (add_full_operators s l r z).1 ≡ unless_refused lawful lines (noise_lines s)
  unfolding add_full_operators
  full_set_lines =
      past P (valid_set s) _ _ _ _ (λ e. absurd (true≢false (sym v ∙ e))) (λ u.
      past P (operators.valid_set false l) _ _ _ _ (λ e. sym (arguments_refused lawful (noise_lines s) (bad_left e) lines)) (λ a.
      past P (operators.valid_set false r) _ _ _ _ (λ e. sym (arguments_refused lawful (noise_lines s) (bad_right e) lines)) (λ b.
      unless P empty _ _ _ _ (λ e. sym (arguments_refused lawful (noise_lines s) (no_terms e) lines)) (λ c.
      past P (in_range z) _ _ _ _ (λ e. sym (arguments_refused lawful (noise_lines s) (bad_number e) lines)) (λ d.
      chain_lines (good_operators a b c d) (add_all pair_terms (map gives terms) (held_by s)) ∙ ap (λ o. unless_refused lawful o (noise_lines s)) lines_are)))))
    where
      P : NoiseSet → Type 0
      P x = noise_lines x ≡ unless_refused lawful lines (noise_lines s)
