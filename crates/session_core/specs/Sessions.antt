-- What is known of a session, whatever tells its parties' seeds.
use Rattle.std.specs.Prelude.{◌≡◌, ℕ, ◌-◌, ◌≤◌, ◌<◌, ◌^◌, Bool, List, [], length, true, All, is_some, unwrap_or, sum_by, vec_len, vec_capacity, Vec}
use Rattle.std.specs.declared.alloc.Global.{Global}
use Rattle.ring_spec.specs.Ring.{IsPoly}
use Rattle.ring_spec.specs.Pairs.{Cipher, CipherFits}
use Rattle.param_set.specs.declared.params.Params.{Params}
use Rattle.circuit_form.specs.Circuits.{owners}
use Rattle.share_spec.specs.Sets.{has}
use Rattle.instance_table.specs.declared.share.Share.{Share}
use Rattle.party_roll.specs.Seeds.{seeds_told}
use Rattle.session_rules.specs.declared.call.Call.{Call}
use Rattle.session_rules.specs.declared.call.Entry.{Entry}
use Rattle.session_rules.specs.declared.reply.Reply.{Reply}
use Rattle.session_rules.specs.declared.fixed.Fixed.{Fixed}
use Rattle.session_rules.specs.declared.fixed.Plan.{Plan}
use Rattle.session_rules.specs.States.{State}
use Rattle.session_rules.specs.Steps.{step}
use Rattle.session_rules.specs.Histories.{state_after}
use Rattle.session_rules.specs.Facts.{Kept}
use Rattle.session_rules.specs.Grounds.{Grounded}
use Rattle.session_spec.specs.Settings.{Setting, Offer, NeedsNoSwitch, rules}
use Rattle.session_spec.specs.Honesty.{IsHonest, BringsShare, BringsInput, BringsOutput}
use Rattle.session_state.specs.declared.standing.Standing.{Standing}
use Rattle.session_state.specs.Standings.{setting, rules_of, state, store, HasRoom}

-- ---- what never changes of a session

-- the parameters; the setting; whether the parties' seeds are told, and these in order; and how many calls are
-- answered at most
pub record Known : Type 0 where
  pub params : Params
  pub setting : Setting
  pub tells : Bool
  pub seeds : List (List ℕ)
  pub most : ℕ

abbrev pub known_by : Bool → (ℕ → List ℕ) → ℕ → Standing → Known
known_by tells seed most st = record {
  params = st.params;
  setting = setting st;
  tells = tells;
  seeds = seeds_told seed st.params.parties;
  most = most;
}

-- the reply to a call behind a history, and the state then
abbrev pub said : Known → List Entry → ℕ → Call → Reply × State
said k log caller c = step (rules k.setting) (state_after (rules k.setting) log) caller c

-- ---- what is asked of a session

-- the values of a circuit's inputs are told: one plaintext for each
pub record HasTold (p : Params) (offer : Offer) : Type 0 where
  pub told : is_some offer.values ≡ true
  pub number : length (unwrap_or offer.values []) ≡ length (owners offer.nodes)
  pub plain : All (IsPoly p.t p.n) (unwrap_or offer.values [])

abbrev pub owner_count : Plan → ℕ
owner_count plan = length plan.owners

-- there are at most 16 different rotations and 1,024 inputs in all: a bound on the calls of a run rests on it
pub record IsModest (f : Fixed) : Type 0 where
  pub turns : length f.turns ≤ 16
  pub inputs : sum_by owner_count f.plans ≤ 1024

-- ---- what calls bring

-- one of n parties
abbrev pub IsParty : ℕ → ℕ → Type 0
IsParty n p = (1 ≤ p) × (p ≤ n)

-- rows of the ring; and, where the seeds are told, the honest ones where they are awaited
pub record BringsShareTo (k : Known) (s : State) (share : Share) : Type 0 where
  pub fits : All (IsPoly k.params.q k.params.n) share.rows
  pub few : length share.rows < 2 ^ 32
  pub honest : k.tells ≡ true → BringsShare k.setting k.seeds s share.id share.party share.rows

-- a ciphertext of the ring; and, where the seeds are told, the encryption of an input's value by its owner's
-- stream where it is then given
pub record BringsInputTo (k : Known) (s : State) (circuit input : ℕ) (ct : Cipher) : Type 0 where
  pub fits : CipherFits k.params.q k.params.n ct
  pub honest : k.tells ≡ true → BringsInput k.setting k.seeds s circuit input ct

-- or the output of a circuit where it is then taken over
pub record BringsOutputTo (k : Known) (s : State) (caller circuit : ℕ) (ct : Cipher) : Type 0 where
  pub fits : CipherFits k.params.q k.params.n ct
  pub honest : k.tells ≡ true → BringsOutput k.setting k.seeds s caller circuit ct

-- ---- what a session keeps

-- those that are present are among n parties
abbrev pub ArePresent : ℕ → State → Type 0
ArePresent n s = (p : ℕ) → has s.present p ≡ true → p ≤ n

-- what holds of a standing behind these calls: its polynomials are those of honest parties where their seeds are
-- told, and no circuit needs a key switch
pub record IsSound (k : Known) (st : Standing) (es : List Entry) : Type 0 where
  pub some : 1 ≤ k.most
  pub most : k.most ≤ 8388608
  pub few : length es ≤ k.most
  pub modest : IsModest (rules k.setting)
  pub free : NeedsNoSwitch k.setting
  pub parties : ArePresent k.params.parties (state st)
  pub values : k.tells ≡ true → All (HasTold k.params) k.setting.offers
  pub honest : k.tells ≡ true → IsHonest k.setting k.seeds (state st) (store st)

abbrev pub IsSoundBy : Bool → (ℕ → List ℕ) → ℕ → Standing → List Entry → Type 0
IsSoundBy tells seed most st es = IsSound (known_by tells seed most st) st es

-- a standing that a call may be made of: it has room for what the call issues
pub record IsReady (st : Standing) : Type 0 where
  pub room : HasRoom st
  pub kept : Kept (rules_of st) (state st)
  pub grounded : Grounded (rules_of st) (state st)

-- how many entries a log has room for without memory
abbrev pub spare : Vec Entry Global → ℕ
spare log = vec_capacity log - vec_len log
