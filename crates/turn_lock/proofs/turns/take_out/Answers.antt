use Rattle.std.proofs.Common.{◌∙◌, ◌∷◌, sym, ap, Some}
use Rattle.atomic_table.specs.Table.{rest}
use Rattle.turn_lock.proofs.turns.take_out.Goals as goal

pub exchange-requires : goal.exchange-requires
exchange-requires g c = let x = c.requires.there in (c.requires.lock, (Some x.0, x.1 ∙ ap (λ l. (0, Some x.0) ∷ rest l) (sym x.1)))
