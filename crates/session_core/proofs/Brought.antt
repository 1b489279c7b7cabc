-- Calls that bring nothing: what is done asks for nothing to be honest.
use Rattle.std.proofs.Common.{ℕ, Bool, true, false, List, Option, Some, None}
use Rattle.std.specs.Prelude.{not, if◌then◌else◌}
use Rattle.share_spec.specs.Sets.{has}
use Rattle.session_rules.specs.declared.deed.Deed.TheVariants.{Joins, Loses, Turns}
use Rattle.session_rules.specs.declared.deed.Verdict.{Verdict}
use Rattle.session_rules.specs.declared.fixed.Fixed.{Fixed}
use Rattle.session_rules.specs.declared.reply.Reply.TheVariants as reply
use Rattle.session_rules.specs.declared.state.CircuitState.TheVariants.{Idle, Taken}
use Rattle.session_rules.specs.States.{State, circuit, is_taken_by}
use Rattle.session_rules.specs.Steps.{says, does, join, lose, next_ready, take, give_back}
use Rattle.session_spec.specs.Settings.{Setting}
use Rattle.session_spec.specs.Stores.{Brought}
use Rattle.session_spec.specs.Honesty.{Brings}

pub join_brings : (w : Setting) (seeds : List (List ℕ)) (s : State) (p : ℕ) (b : Brought) → Brings w seeds s (join s p).deed b
unfolding join
join_brings w seeds s p b = at (has s.present p)
  where
    at : (there : Bool) → Brings w seeds s (if there then says reply.Already else does reply.Joined (Joins p)).deed b
    at true = tt
    at false = tt

pub lose_brings : (w : Setting) (seeds : List (List ℕ)) (s : State) (p : ℕ) (b : Brought) → Brings w seeds s (lose s p).deed b
unfolding lose
lose_brings w seeds s p b = at (has s.present p)
  where
    at : (there : Bool) → Brings w seeds s (if not there then says reply.Already else does reply.Left (Loses p)).deed b
    at true = tt
    at false = tt

pub return_brings : (w : Setting) (seeds : List (List ℕ)) (s : State) (who c : ℕ) (b : Brought) → Brings w seeds s (give_back s who c).deed b
unfolding give_back
return_brings w seeds s who c b = at (is_taken_by who (circuit s.circuits c))
  where
    at : (theirs : Bool) → Brings w seeds s (if theirs then does reply.Returned (Turns c Idle) else says reply.NotTaken).deed b
    at true = tt
    at false = tt

-- a circuit that is taken, or none
abbrev pub take_by : ℕ → Option ℕ → Verdict
take_by who None = says reply.Nothing
take_by who (Some c) = does (reply.Job c) (Turns c (Taken who))

pub take_brings : (w : Setting) (seeds : List (List ℕ)) (f : Fixed) (s : State) (who : ℕ) (b : Brought) → Brings w seeds s (take f s who).deed b
unfolding take
take_brings w seeds f s who b = at (next_ready f s)
  where
    at : (o : Option ℕ) → Brings w seeds s (take_by who o).deed b
    at None = tt
    at (Some c) = tt
