-- `find`: a number that stands nowhere is of a free key, and the first term with it has the key, or the keys are looked through.
use Rattle.std.proofs.Common.{◌≡◌, ◌∙◌, ◌<◌, ap, sym, subst, true, false, eqb, List, ℕ, map, take, length, length-take, get_or-take, Option, Some, None, MatchOption, rules, arith}
use Rattle.std.proofs.lemmas.List.{length-map}
use Rattle.std.specs.List.{AllWithin, HoldsAt}
use borrow.Author.Tests.{tests}
use Rattle.std.proofs.lemmas.Iterator.{IsFirst-from_position, YieldsList-from_slice}
use Rattle.term_sets.proofs.FoundLaws.{first_is}
use Rattle.term_sets.specs.Sets.{held_by}
use Rattle.term_writing.proofs.NumberLaws.{number_absent, number_found}
use Rattle.term_writing.proofs.adding.Adding.find.Goals.{After-position}
use Rattle.term_writing.proofs.adding.Adding.find.Given as given
use Rattle.term_writing.proofs.adding.Adding.find.Goals as goal

-- what the search among the numbers of the keys answers
Searched : (number : ℕ) (l : List ℕ) → Option ℕ → Type 0
Searched number l r =
    MatchOption r (AllWithin (λ y. eqb y number ≡ false) l 0 (length l)) (λ i. (i < length l) × HoldsAt (λ y. eqb y number ≡ true) l i × AllWithin (λ y. eqb y number ≡ false) l 0 i)

searched : (g : given.Over) (c : After-position g) → Searched c.args.number (map (λ t. g.K.Key.keys.number_of t.key) (held_by c.args.self.now.set)) c.position.result
unfolding Searched
searched g c =
    let l = take c.args.self.now.set.count c.args.self.now.numbers in
    subst (λ (xs : List ℕ). Searched c.args.number xs c.position.result) c.args.self.now.numbered.numbered
    (IsFirst-from_position _ _ _ (λ y. eqb y c.args.number ≡ true) (λ y. eqb y c.args.number ≡ false) c.position.ensures.ran
    (YieldsList-from_slice l c.iter.ensures.rest) (λ x q r. search (rules, tests)) (λ x q r. search (rules, tests)))

pub returns-in_err-at : goal.returns-in_err-at
unfolding Searched
returns-in_err-at g c =
    let l = held_by c.args.self.now.set in
    let h = rw c.in_err-at.was at (searched g (goal.at.returns-in_err-at g c).After-position) in
    let free = number_absent g.K.Key.keys g.N.Coefficient.numbers g.met.K.Key.laws c.args.key.now c.args.number c.requires l (first_is _ _ None h) in
    rw c.from_residual.ensures free

pub returns-then-is_same : goal.returns-then-is_same
unfolding Searched
returns-then-is_same g c =
    let s = c.args.self.now.set in
    let k = g.K.Key.keys in
    let i = c.in_ok-at.at in
    let h = rw c.in_ok-at.was at (searched g (goal.at.returns-then-is_same g c).After-position) in
    let within : i < length (held_by s) = rw length-map at h.0 in
    let long = length-take s.count s.terms in
    let same = ap (λ t. k.same t.key c.args.key.now) (get_or-take s.count s.terms i c.index-self-at.result (omega arith)) ∙ sym c.if-is_same.ensures in
    number_found k g.N.Coefficient.numbers g.met.K.Key.laws c.args.key.now c.args.number c.requires (held_by s) i (sym (first_is _ _ (Some i) h)) c.index-self-at.result within same
