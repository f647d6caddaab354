-- Each answer by the tests that led to it.
use mathlib.Core.Path.{sym, ◌∙◌}
use Rattle.term_sets.proofs.MaskedLaws.{too_many, not_blank, by_held}
use Rattle.term_sets.proofs.Set.judged.Goals.{then-self-gt-MOST_TERMS-via-then-self-gt-MOST_TERMS, then-self-gt-MOST_TERMS-via-else-self-gt-MOST_TERMS+then-not-has_blanks_past}
use Rattle.term_sets.proofs.Set.judged.Goals as goal

pub returns-then-self-gt-MOST_TERMS : goal.returns-then-self-gt-MOST_TERMS
returns-then-self-gt-MOST_TERMS g c =
    let k = g.K.Key.keys in
    let n = g.N.Coefficient.numbers in
    let zeros = c.args.zeros in
    let s = c.args.self.now in
    elim c.then-self-gt-MOST_TERMS.branch [
      | then-self-gt-MOST_TERMS-via-then-self-gt-MOST_TERMS w ↦ too_many k n zeros s w.if-self-gt-MOST_TERMS.true
      | then-self-gt-MOST_TERMS-via-else-self-gt-MOST_TERMS+then-not-has_blanks_past w ↦
          not_blank k n zeros s w.has_blanks_past.ensures.whole w.if-self-gt-MOST_TERMS.false (sym w.has_blanks_past.ensures.past ∙ w.if-not-has_blanks_past.true)
    ]

pub returns : goal.returns
returns g c =
    let e =
    by_held g.K.Key.keys g.N.Coefficient.numbers c.args.zeros c.args.self.now c.has_blanks_past.ensures.whole c.if-self-gt-MOST_TERMS.false
    (sym c.has_blanks_past.ensures.past ∙ c.if-not-has_blanks_past.false) in
    rw (sym e, sym c.held.ensures) c.judged_terms.ensures
