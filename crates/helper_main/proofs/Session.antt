-- The session of a script: what it is made of, and the history of its serial run.
use Rattle.std.proofs.Common.{◌≡◌, ◌∙◌, Result, Ok, Err, sym, ap, ap₂, subst, refl, ℕ, ◌≤◌, true, List, length, map, get_or, All, arith}
use Rattle.std.specs.Prelude.{IfOk}
use Rattle.std.proofs.lemmas.List.{length-map}
use Rattle.std.proofs.lemmas.List.Elements.{All-same, All-map, All-weaker}
use Rattle.std.proofs.lemmas.List.Sums.{AllPass-from_list_all}
use Rattle.draw_spec.specs.Streams.{party_seed}
use Rattle.param_set.specs.declared.params.Params.{Params}
use Rattle.party_roll.specs.Seeds.{seeds_told, seeds_of}
use Rattle.session_rules.specs.declared.call.Entry.{Entry}
use Rattle.session_script.specs.Asked.{Asked, Named, Numbers, numbers_of}
use Rattle.session_script.specs.Kept.{IsNamed, AreNamed, IsAccepted}
use Rattle.session_spec.specs.Settings.{Setting, Offer, Keeps, IsSwitchFree, rules}
use Rattle.session_state.specs.Parts.{setting_by}
use Rattle.session_core.specs.Sessions.{IsModest, HasTold}
use Rattle.run_report.specs.Reports.{offered, setting_asked, seeds_asked, report}
use Rattle.lane_workers.specs.Acting.{CanAct, IsHonestParty}
use Rattle.party_roll.specs.declared.seed_party.SeedParty.{SeedParty}
use Rattle.run_laws.specs.Lengths.{inputs}
use Rattle.headline.specs.History.{is_free, are_free, history}
use Rattle.headline.proofs.Small.{small}
use Rattle.helper_main.specs.Parties.{IsPartyOf}
use Rattle.helper_main.specs.Runs.{serial_report}

-- ---- the circuits

named_keeps : (s : Params) (a : Asked) (one : Named) → a.numbers ≡ numbers_of s → IsNamed a.numbers one → Keeps s (offered one)
named_keeps s a one numbers named = record {
  rules = (subst (λ (z : Numbers). IsNamed z one) numbers named).rules;
}

all_keep : (s : Params) (a : Asked) → a.numbers ≡ numbers_of s → AreNamed a → All (λ (z : Named). Keeps s (offered z)) a.circuits
all_keep s a numbers named = λ k d inside. named_keeps s a (get_or a.circuits k d) numbers (named k d inside)

pub keeps : (a : Asked) (p s : Params) (circuits : List Offer) → a.numbers ≡ numbers_of s → p ≡ s → AreNamed a → circuits ≡ map offered a.circuits → All (Keeps p) circuits
keeps a p s circuits numbers same named is =
    subst (λ (z : Params). All (Keeps z) circuits) (sym same)
    (All-same (Keeps s) circuits (map offered a.circuits) is (All-map (Keeps s) offered a.circuits (all_keep s a numbers named)))

-- they rotate by nothing and multiply no two encrypted values
pub free : (a : Asked) (circuits : List Offer) → are_free a.circuits ≡ true → circuits ≡ map offered a.circuits → All IsSwitchFree circuits
free a circuits h is =
    All-same IsSwitchFree circuits (map offered a.circuits) is (All-map IsSwitchFree offered a.circuits (λ k d inside. AllPass-from_list_all is_free a.circuits h k d inside))

named_told : (s : Params) (named : Named) → IsNamed (numbers_of s) named → HasTold s (offered named)
named_told s named h = record { told = refl; number = h.count; plain = h.values }

pub told : (a : Asked) (p s : Params) (circuits : List Offer) → a.numbers ≡ numbers_of s → p ≡ s → AreNamed a → circuits ≡ map offered a.circuits → All (HasTold p) circuits
told a p s circuits numbers same named is =
    let all = subst (λ (z : Numbers). All (IsNamed z) a.circuits) numbers named in
    let told_all = All-map (HasTold s) offered a.circuits (All-weaker (IsNamed (numbers_of s)) (λ (z : Named). HasTold s (offered z)) (named_told s) a.circuits all) in
    subst (λ (z : Params). All (HasTold z) circuits) (sym same) (All-same (HasTold s) circuits (map offered a.circuits) is told_all)

pub few : (a : Asked) (circuits : List Offer) → circuits ≡ map offered a.circuits → length a.circuits ≤ 64 → length circuits ≤ 64
few a circuits is most = omega (arith, ap length is, length-map a.circuits offered, most)

-- ---- its setting

pub if_ok : {X E : Type 0} {P Q : X → Type 0} (r : Result X E) → ((x : X) → P x → Q x) → IfOk r P → IfOk r Q
if_ok (Ok x) f p = f x p
if_ok (Err e) f p = tt

setting_now : (a : Asked) (s : Params) → a.numbers ≡ numbers_of s → setting_by s (party_seed a.master 0) (map offered a.circuits) ≡ setting_asked a
unfolding setting_asked
setting_now a s numbers = cc

pub setting_is : (a : Asked) (p s : Params) (master : List ℕ) (circuits : List Offer) → a.numbers ≡ numbers_of s → p ≡ s → master ≡ a.master → circuits ≡ map offered a.circuits → setting_by p (party_seed master 0) circuits ≡ setting_asked a
setting_is a p s master circuits numbers same seed is =
    ap (λ (z : Params). setting_by z (party_seed master 0) circuits) same
    ∙ ap₂ (λ (m : List ℕ) (os : List Offer). setting_by s (party_seed m 0) os) seed is ∙ setting_now a s numbers

-- it asks for little
pub modest : (a : Asked) (w : Setting) → IsAccepted a → w ≡ setting_asked a → IsModest (rules w)
unfolding inputs
modest a w h e =
    let s = small a h in
    subst (λ (z : Setting). IsModest (rules z)) (sym e) (record { turns = s.turns; inputs = s.inputs })

-- ---- its parties

pub seeds_are : (a : Asked) (master : List ℕ) (n : ℕ) → master ≡ a.master → n ≡ a.numbers.parties → seeds_told (party_seed master) n ≡ seeds_asked a
unfolding seeds_of
seeds_are a master n seed is = ap₂ (λ (m : List ℕ) (k : ℕ). seeds_told (party_seed m) k) seed is

-- a party of the script is one of a session with this setting and these seeds
abbrev pub Able : Params → Setting → SeedParty → Type 0
Able p w party = CanAct p w party.params party.number party.values

abbrev pub Honest : Setting → List (List ℕ) → SeedParty → Type 0
Honest w seeds party = IsHonestParty w seeds true (party_seed party.roll.master 0) (seeds_of party.roll.master party.params.parties) party.number party.values

pub able : (a : Asked) (p q : Params) (w : Setting) (party : SeedParty) → q ≡ p → w ≡ setting_asked a → IsPartyOf p a party → Able q w party
able a p q w party same setting h =
    subst (λ (z : Params). Able z w party) (sym same) (subst (λ (z : Setting). Able p z party) (sym setting) h.able)

pub honest : (a : Asked) (p : Params) (w : Setting) (seeds : List (List ℕ)) (party : SeedParty) → w ≡ setting_asked a → seeds ≡ seeds_asked a → IsPartyOf p a party → Honest w seeds party
honest a p w seeds party setting told h =
    subst (λ (z : Setting). Honest z seeds party) (sym setting) (subst (λ (z : List (List ℕ)). Honest (setting_asked a) z party) (sym told) h.honest)

-- ---- its report

pub report_is : (a : Asked) (log : List Entry) → log ≡ history a → report a log ≡ serial_report a
unfolding serial_report
report_is a log e = ap (report a) e
