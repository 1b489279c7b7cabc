-- The sums of an instance that stands are honest.
use Rattle.session_state.specs.Standings.{setting, state, store}
use Rattle.session_core.proofs.Going.{stands_in}
use Rattle.session_core.proofs.Handed.{sums_if}
use Rattle.session_core.proofs.session.Session.sums.Goals as goal

pub returns-clause-honest : goal.returns-clause-honest
returns-clause-honest g c =
    let s = c.args.self.now in let st = s.standing in
    sums_if st.params (setting st) _ (state st) (store st) c.args.id (λ sums. sums.now) c.sums.result
    (stands_in s) c.sums.ensures.value c.sums.ensures.while_it_stands.0
