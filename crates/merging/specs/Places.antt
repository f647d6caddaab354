-- Definitions that only the helpers of the entries cite: the site at a place of a record, and the place of a site.
use Rattle.std.specs.Prelude.{ℕ, suc, List, cond, ltb, leb}
use Rattle.letters.specs.Tests.{first_from}
use Rattle.items.specs.Lists.{at}
use Rattle.items.specs.Record.{highest_site}
use Rattle.items.specs.declared.Items.{Items}

-- the site at a place below the count, and past the count a number above every site
unfoldable pub next_site : ℕ → List ℕ → ℕ → ℕ
next_site count sites i = cond (ltb i count) (at sites i) (suc highest_site)

-- the first place whose site is not below s; the count where there is none
unfoldable pub place_of : Items → ℕ → ℕ
place_of p s = first_from (λ i. leb s (at p.sites i)) p.count 0
