-- `remap_qubits`: a step for each term, refused with either of its products, or taken, or without room.
use Rattle.std.proofs.Common.{◌≡◌, ◌∙◌, ℕ, ap, sym, [], ◌∷◌, Ok, Err}
use Rattle.refusal.specs.Refusals.{gives, refuses, number, site_of}
use Rattle.refusal.specs.declared.Refusal.{Refusal}
use Rattle.complex.specs.Coefficients.{complexes}
use Rattle.items.specs.Answers.{told}
use Rattle.items.specs.Lists.{at}
use Rattle.items.specs.declared.Items.{Items}
use Rattle.remapping.specs.Targets.{remap_answer}
use Rattle.terms.specs.Setting.{add_all}
use Rattle.terms.proofs.NestedLaws.{concat_map_one}
use Rattle.term_sets.specs.Keys.{pair_keys}
use Rattle.term_writing.proofs.ChainLaws.{remaining_all, remaining_refused, remaining_more, remaining_full, remaining_none, refused_told, end_told}
use Rattle.noise_sets.specs.Pairs.{NoiseTerm, pair_terms, pair_of, held_by}
use Rattle.noise_sets.specs.Answers.{ended}
use Rattle.noise_remapping.specs.RemapAnswers.{remap_step, remap_set}
use Rattle.noise_remapping.proofs.remap_qubits.Invariants.{wanted, one_step}
use Rattle.noise_remapping.proofs.remap_qubits.Goals as goal

-- ---- the step of a term, by what moving its products answers

module _ (t : ℕ → ℕ) (x : NoiseTerm) where
  left_refused : (why : Refusal) → told x.key.0 (Err why) ≡ remap_answer t x.key.0 → one_step t x ≡ refuses (number why) (site_of why) ∷ []
  unfolding remap_step
  left_refused why e = rw (← e)

  module _ (p : Items) (left : told x.key.0 (Ok p) ≡ remap_answer t x.key.0) where
    right_refused : (why : Refusal) → told x.key.1 (Err why) ≡ remap_answer t x.key.1 → one_step t x ≡ refuses (number why) (site_of why) ∷ []
    unfolding remap_step
    right_refused why e = rw (← left, ← e)

    both_moved : (q : Items) → told x.key.1 (Ok q) ≡ remap_answer t x.key.1 → one_step t x ≡ gives (pair_of (p, q) x.coefficient) ∷ []
    unfolding remap_step
    both_moved q e = rw (← left, ← e)

-- ---- the places

pub returns-then-not-is_valid : goal.returns-then-not-is_valid
unfolding remap_set
returns-then-not-is_valid c = rw (sym c.is_valid.ensures ∙ c.if-not-is_valid.true)

pub loop-x-init : goal.loop-x-init
loop-x-init c =
    let t = at c.args.targets.now in
    remaining_all pair_keys complexes (wanted t c.args.s.now) (one_step t) _ [] _
    (rw c.held-x-items.ensures (ap (λ xs. add_all pair_terms xs []) (concat_map_one (remap_step t) (held_by c.args.s.now))))
    c.new-sum.ensures

pub returns-in_err-left : goal.returns-in_err-left
unfolding remap_set
returns-in_err-left c =
    let v = sym c.is_valid.ensures ∙ c.if-not-is_valid.false in
    rw v
    (refused_told pair_keys complexes _ _ _ _ c.from_residual.ensures.1
    (remaining_refused pair_keys complexes c.loop-x.invariant _ c.loop-x-test.true (left_refused _ _ _ c.in_err-left.ensures)))

pub returns-in_err-right : goal.returns-in_err-right
unfolding remap_set
returns-in_err-right c =
    let v = sym c.is_valid.ensures ∙ c.if-not-is_valid.false in
    rw v
    (refused_told pair_keys complexes _ _ _ _ c.from_residual-in_err-right.ensures.1
    (remaining_refused pair_keys complexes c.loop-x.invariant _ c.loop-x-test.true (right_refused _ _ _ c.in_ok-left.ensures _ c.in_err-right.ensures)))

pub returns-in_err-add : goal.returns-in_err-add
unfolding remap_set
returns-in_err-add c =
    let v = sym c.is_valid.ensures ∙ c.if-not-is_valid.false in
    rw v
    (refused_told pair_keys complexes _ _ _ _ c.from_residual-in_err-add.ensures.1
    (remaining_full pair_keys complexes c.loop-x.invariant _ c.loop-x-test.true _ _
    (both_moved _ _ _ c.in_ok-left.ensures _ c.in_ok-right.ensures) c.in_err-add.ensures))

pub loop-x-preserved : goal.loop-x-preserved
loop-x-preserved c =
    remaining_more pair_keys complexes c.loop-x.invariant _ c.loop-x-test.true _ _
    (both_moved _ _ _ c.in_ok-left.ensures _ c.in_ok-right.ensures) c.in_ok-add.ensures

pub returns : goal.returns
unfolding remap_set
returns c =
    let v = sym c.is_valid.ensures ∙ c.if-not-is_valid.false in
    rw v
    (end_told pair_keys complexes _ _ c.finished.result c.finished.ensures
    ∙ ap (ended c.args.s.now) (sym (remaining_none pair_keys complexes c.loop-x.invariant c.loop-x-test.false)))
