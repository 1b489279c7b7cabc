-- Scripts in which who waits for less takes part first.
use Rattle.std.proofs.Common.{◌≡◌, [], ◌∷◌, refl}
use Rattle.proto_names.specs.declared.signature.Signature.TheVariants.{Dec}
use Rattle.proto_names.specs.declared.instance.Stage.TheVariants.{Opened, Complete}
use Rattle.session_rules.specs.declared.state.CircuitState.TheVariants.{Answered}
use Rattle.session_rules.specs.States.{seen}
use Rattle.session_rules.specs.Issues.{chosen_present}
use Rattle.session_rows.proofs.Words.{two_constants, Comes, none, one, one_two, three_four, issued, joins, owes, tells, counts, completes, takes, finishes, rests}
use Rattle.session_rows.proofs.Computed.{rules}

-- the second of two decryptions is issued while the first waits for the parties 1 and 2: it is for 3 and 4
pub shares_the_work : Comes two_constants (1 ∷ 2 ∷ 3 ∷ 4 ∷ []) [] (
    joins 1 ∷ joins 2 ∷ joins 3 ∷ joins 4 ∷
    owes 1 [] [] ∷
    owes 2 [] [] ∷
    owes 3 [] [] ∷
    owes 4 [] [] ∷
    takes 0 ∷ finishes 0 ∷
    takes 1 ∷ finishes 1 ∷ rests ∷
    owes 1 (1 ∷ []) [] ∷ tells 1 (Dec 0) one_two ∷ counts 1 1 1 1 ∷
    owes 2 (1 ∷ []) [] ∷ tells 1 (Dec 0) one_two ∷ completes 1 2 1 ∷
    owes 3 (2 ∷ []) [] ∷ tells 2 (Dec 1) three_four ∷ counts 2 3 1 1 ∷
    owes 4 (2 ∷ []) [] ∷ tells 2 (Dec 1) three_four ∷ completes 2 4 1 ∷
    rests ∷ [])
    (seen 15 (
    issued 1 (Dec 0) one_two 1 one_two Complete 0 ∷
    issued 2 (Dec 1) three_four 1 three_four Complete 0 ∷ []) ([] ∷ [] ∷ []) (Answered ∷ Answered ∷ []))
unfolding rules
shares_the_work = (refl, refl, refl)

-- ---- who takes part in a new instance, where all four parties are present

-- nobody waits: ties go to the lower numbers, and not to the higher ones
pub breaks_ties : (chosen_present two_constants (seen 15 [] [] [])).bits ≡ 3
unfolding rules
breaks_ties = refl

pub breaks_ties_the_other_way : (chosen_present two_constants (seen 15 [] [] [])).bits ≡ 12 → ⊥
unfolding rules
breaks_ties_the_other_way e = cc

-- the parties 1 and 2 are waited for: not by number alone
pub chooses_by_load : (chosen_present two_constants (seen 15 (issued 1 (Dec 0) one_two 1 none Opened 0 ∷ []) [] [])).bits ≡ 12
unfolding rules
chooses_by_load = refl

pub chooses_by_number_alone : (chosen_present two_constants (seen 15 (issued 1 (Dec 0) one_two 1 none Opened 0 ∷ []) [] [])).bits ≡ 3 → ⊥
unfolding rules
chooses_by_number_alone e = cc

-- party 1 has sent and is waited for no more: 1 and 3 have no load, and 1 and 2 aren't chosen
pub counts_no_share_that_is_there : (chosen_present two_constants (seen 7 (issued 1 (Dec 0) one_two 1 one Opened 0 ∷ []) [] [])).bits ≡ 5
unfolding rules
counts_no_share_that_is_there = refl
