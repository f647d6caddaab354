-- `convert`: the terms of a valid Hamiltonian, whose keys differ, are collected.
use Rattle.std.proofs.Common.{◌∙◌, sym, refl, ap, [], map}
use lib.ListN.{length-map}
use Rattle.refusal.specs.Refusals.{gives}
use Rattle.terms.specs.Keyed.{each}
use Rattle.terms.specs.Setting.{add_all}
use Rattle.terms.proofs.KeyedLaws.{all_of}
use Rattle.terms.proofs.SettingLaws.{different}
use Rattle.terms.proofs.ValidSetLaws as laws
use Rattle.term_sets.specs.Complexes.{filled, complex_terms}
use Rattle.term_sets.proofs.SetLaws.{held-from}
use Rattle.hamiltonians.specs.Reals.{real_terms, complex_term, held_by}
use Rattle.hamiltonians.proofs.RealValidLaws.{valid_hamiltonians}
use Rattle.chains.specs.ChainAnswers.{ended}
use Rattle.chains.specs.HamiltonianProducts.{into_operator}
use Rattle.chains.proofs.PassLaws.{different_mapped}
use Rattle.chains.proofs.hamiltonian_product.convert.Goals as goal

pub collected-requires-clause-few : goal.collected-requires-clause-few
collected-requires-clause-few c =
    let h = c.args.hamiltonian.now in
    let v = sym c.is_valid.ensures ∙ c.if-not-is_valid.false in
    rw (held-from c.complex_terms.result _ c.complex_terms.ensures, length-map) (laws.valid-few valid_hamiltonians h v)

pub collected-requires-clause-differ : goal.collected-requires-clause-differ
collected-requires-clause-differ c =
    let h = c.args.hamiltonian.now in
    let v = sym c.is_valid.ensures ∙ c.if-not-is_valid.false in
    ap (each (different complex_terms)) (held-from c.complex_terms.result _ c.complex_terms.ensures)
    ∙ different_mapped real_terms complex_terms (λ p q. refl) complex_term (held_by h) (all_of _ (λ x. refl) (held_by h)) (laws.valid-different valid_hamiltonians h v)

pub returns : goal.returns
unfolding into_operator
returns c =
    let held = held-from c.complex_terms.result _ c.complex_terms.ensures in
    rw (← c.is_valid.ensures, c.if-not-is_valid.false)
    (c.collected.ensures (filled []) ∙ ap (λ l. ended (filled []) (add_all complex_terms (map gives l) [])) held)
