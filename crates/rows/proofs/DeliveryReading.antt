-- The reading of a delivery is one to one: it is known by what it says.
-- Assumes nothing.
use Rattle.refusal.proofs.RefusalLaws.{OneToOne, said_by_known}
use Rattle.rows.specs.Buffers.{said_delivery}

pub delivery_known : OneToOne said_delivery
delivery_known = said_by_known (λ n. n) (λ n m e. e)
