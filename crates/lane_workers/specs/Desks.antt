-- One who acts in a session: what it knows, what it has seen, and what its calls come to.
use Rattle.std.specs.Prelude.{◌≡◌, ℕ, ◌≤◌, ◌<◌, ◌^◌, Bool, true, false, List, [], ◌∷◌, ◌++◌, length, All, Option, Some, None, IfSome, Result, ◌↔◌, IfOk, IfErr, ⊤, refl}
use Rattle.atomic_table.specs.Seated.{TableId}
use Rattle.ring_spec.specs.Ring.{IsPoly}
use Rattle.ring_spec.specs.Pairs.{Cipher, CipherFits, KeyFits}
use Rattle.share_spec.specs.Sets.{has}
use Rattle.param_set.specs.Numbers.{numbers_of}
use Rattle.proto_names.specs.Names.{rows_of}
use Rattle.proto_names.specs.Instances.{instance}
use Rattle.proto_names.specs.Roles.{last_place}
use Rattle.proto_names.specs.declared.signature.Signature.TheVariants.{Pk}
use Rattle.proto_names.specs.declared.instance.Instance.{Instance}
use Rattle.cipher_spec.specs.Ciphers.{is_switch_free}
use Rattle.instance_table.specs.Tables.{role_told}
use Rattle.instance_table.specs.declared.brief.Brief.{Brief}
use Rattle.instance_table.specs.declared.share.Share.{Share}
use Rattle.party_roll.specs.Briefs.{IsBrief}
use Rattle.party_roll.specs.declared.roll.Roll.{Ghosts}
use Rattle.session_rules.specs.declared.call.Call.{Call}
use Rattle.session_rules.specs.declared.call.Entry.{Entry}
use Rattle.session_rules.specs.declared.reply.Reply.{Reply}
use Rattle.session_rules.specs.declared.reply.Reply.TheVariants as reply
use Rattle.session_rules.specs.declared.fixed.Fixed.{Fixed}
use Rattle.session_rules.specs.Facts.{IsLive}
use Rattle.session_rules.specs.Histories.{IsLegal, state_after}
use Rattle.session_rules.specs.States.{State, circuit, has_done, is_taken_by}
use Rattle.session_rules.specs.Steps.{is_input}
use Rattle.session_rules.specs.Tasks.{own, entry}
use Rattle.session_spec.specs.Settings.{Setting, rules, gadget_rows, nodes_at}
use Rattle.session_spec.specs.Outputs.{key_in, keys_in, polys_of, share_of, input_of, inputs_of, output_of}
use Rattle.circuit_runner.specs.declared.job.Job.{Job}
use Rattle.session_state.specs.Handed.{CanEvaluate, brief_reply}
use Rattle.session_state.specs.declared.handed.Briefing.{Briefing}
use Rattle.session_state.specs.declared.handed.Listing.{Listing}
use Rattle.session_state.specs.declared.handed.Taking.{Taking}
use Rattle.session_core.specs.Sessions.{Known, HasTold, IsModest, said}
use Rattle.session_core.specs.Calls.{known}
use Rattle.session_core.specs.declared.session.Session.{Session}
use Rattle.session_core.specs.declared.stop.Stop.{Stop}
use Rattle.session_core.specs.declared.stop.Stop.TheVariants.{Spent}

-- ---- what it knows and sees

-- what no call changes: what is known of its session; who calls; whether nobody else does; the names of what is lent to
-- it, none where it holds no reference; of which lock it has a pass, if it has one; and the history that stood before
pub record Fixture : Type 0 where
  pub known : Known
  pub caller : ℕ
  pub alone : Bool
  pub lent : List ℕ
  pub lock : Option TableId
  pub earlier : List Entry

-- and the calls that it has seen, in their order, and its own among them
pub record View : Type 0 where
  pub fixed : Fixture
  pub seen : List Entry
  pub mine : List Entry

abbrev pub known_of : View → Known
known_of v = v.fixed.known

abbrev pub rules_of : View → Fixed
rules_of v = rules v.fixed.known.setting

-- the state behind a history, and behind what it has seen
abbrev pub behind : Known → List Entry → State
behind k es = state_after (rules k.setting) es

abbrev pub state_seen : View → State
state_seen v = behind v.fixed.known v.seen

-- its own entries are those of its caller behind what stood before
pub record IsMine (v : View) : Type 0 where
  pub later : List Entry
  pub seen : v.seen ≡ v.fixed.earlier ++ later
  pub mine : own v.fixed.caller later ≡ v.mine

-- what holds of whatever it sees
pub record IsSeen (v : View) : Type 0 where
  pub numbers : v.fixed.known.setting.numbers ≡ numbers_of v.fixed.known.params
  pub legal : IsLegal (rules v.fixed.known.setting) v.seen
  pub mine : IsMine v
  pub some : 1 ≤ v.fixed.known.most
  pub most : v.fixed.known.most ≤ 8388608
  pub few : length v.seen ≤ v.fixed.known.most
  pub modest : IsModest (rules v.fixed.known.setting)
  pub values : v.fixed.known.tells ≡ true → All (HasTold v.fixed.known.params) v.fixed.known.setting.offers

-- ---- what a call comes to

-- the calls of others, which come before its own; where nobody else calls there are none
pub record AreOthers (f : Fixture) (others : List Entry) : Type 0 where
  pub strange : own f.caller others ≡ []
  pub none : f.alone ≡ true → others ≡ []

-- what is handed out in a state with a reply
abbrev pub Hands : Type 0 → Type 1
Hands X = Known → State → X → Type 0

-- nothing is
abbrev pub nothing_handed : {X : Type 0} → Hands X
nothing_handed k s x = ⊤

-- it was answered behind calls of others, as the rules say there, and what is handed out is so there
pub record Answered {X : Type 0} (v w : View) (c : Call) (r : Reply) (H : Hands X) (x : X) : Type 0 where
  pub others : List Entry
  pub are : AreOthers v.fixed others
  pub seen : w.seen ≡ (v.seen ++ others) ++ entry v.fixed.caller c r ∷ []
  pub mine : w.mine ≡ v.mine ++ entry v.fixed.caller c r ∷ []
  pub reply : r ≡ (said v.fixed.known (v.seen ++ others) v.fixed.caller c).0
  pub hands : H v.fixed.known (behind v.fixed.known (v.seen ++ others)) x

-- it wasn't answered: only calls of others are seen; and it was refused as Spent exactly where all calls are made
pub record Unanswered (v w : View) (why : Stop) : Type 0 where
  pub others : List Entry
  pub are : AreOthers v.fixed others
  pub seen : w.seen ≡ v.seen ++ others
  pub mine : w.mine ≡ v.mine
  pub spent : (why ≡ Spent) ↔ (length w.seen ≡ v.fixed.known.most)

-- how a call comes out
pub record Turned {X : Type 0} (v w : View) (result : Result X Stop) (said_in : X → Reply) (c : Call) (H : Hands X) : Type 0 where
  pub same : w.fixed ≡ v.fixed
  pub answered : IfOk result (λ x. Answered v w c (said_in x) H x)
  pub unanswered : IfErr result (Unanswered v w)

-- ---- what is handed out

-- the public key, exactly where one is complete: it fits, and is the honest one where the seeds are told
pub record ShowsKey (k : Known) (s : State) (listing : Listing) : Type 0 where
  pub fits : IfSome listing.key (λ a. KeyFits k.params.q k.params.n a.value)
  pub complete : IfSome listing.key (λ a. has_done Pk s.instances ≡ true)
  pub none : listing.key ≡ None → has_done Pk s.instances ≡ false
  pub honest : k.tells ≡ true → IfSome listing.key (λ a. a.value ≡ key_in k.setting k.seeds s.instances)

-- a brief tells what an instance is
pub record TellsOf (i : Instance) (brief : Brief) : Type 0 where
  pub id : brief.id ≡ i.id
  pub signature : brief.signature ≡ i.signature
  pub set : brief.set ≡ i.set
  pub round1 : brief.round1 ≡ i.round1
  pub group : last_place brief.groups.value ≡ i.group

-- the brief of an instance, exactly where that is issued and not void, with the reply that goes with it
pub record ShowsBrief (id : ℕ) (k : Known) (s : State) (briefing : Briefing) : Type 0 where
  pub told : IfSome briefing.brief (λ a. (i : Instance) → instance s.instances id ≡ Some i → TellsOf i a.value)
  pub there : (i : Instance) → instance s.instances id ≡ Some i → IsLive i → briefing.brief ≡ None → ⊥
  pub goes : IfSome briefing.brief (λ a. briefing.reply ≡ brief_reply a.value)
  pub made : IfSome briefing.brief (λ a. IsBrief k.params a.value)
  pub honest : k.tells ≡ true
      → IfSome briefing.brief (λ a. a.value.polys
      ≡ polys_of k.setting k.seeds (keys_in k.setting k.seeds s.instances) (role_told a))

-- a job of a session: its circuit can be evaluated, without a key switch, and its inputs are the encryptions of their
-- values where the seeds are told
pub record IsJob (k : Known) (s : State) (job : Job) : Type 0 where
  pub circuit : job.circuit.value ≡ nodes_at k.setting job.number
  pub ready : CanEvaluate k.params job
  pub free : is_switch_free job.circuit.value ≡ true
  pub honest : k.tells ≡ true → job.inputs ≡ inputs_of k.setting k.seeds (key_in k.setting k.seeds s.instances) job.number

-- the job for the circuit that the reply names, and none with Nothing
pub record ShowsJob (k : Known) (s : State) (taking : Taking) : Type 0 where
  pub named : IfSome taking.job (λ j. taking.reply ≡ reply.Job j.number)
  pub none : taking.job ≡ None → taking.reply ≡ reply.Nothing
  pub job : IfSome taking.job (IsJob k s)

-- ---- a desk that is lent

-- the view of one who holds a reference with this name to a desk
abbrev pub lent_view : ℕ → View → View
lent_view name v = record v { fixed = record v.fixed { lent = name ∷ v.fixed.lent } }

pub lent_seen : (name : ℕ) (v : View) → IsSeen v → IsSeen (lent_view name v)
lent_seen name v s = record {
  numbers = s.numbers;
  legal = s.legal;
  mine = record { later = s.mine.later; seen = s.mine.seen; mine = s.mine.mine };
  some = s.some;
  most = s.most;
  few = s.few;
  modest = s.modest;
  values = s.values;
}

-- ---- what it may bring, whatever others call before

-- a share of an instance that is issued: the honest one, if it can be counted
pub record IsShareThere (w : Setting) (seeds : List (List ℕ)) (s : State) (share : Share) : Type 0 where
  pub item : Instance
  pub issued : instance s.instances share.id ≡ Some item
  pub honest : has item.set.bits share.party ≡ true → length share.rows ≡ rows_of item.signature (gadget_rows w)
      → share.rows ≡ share_of w seeds (keys_in w seeds s.instances) item share.party

pub record MayDeliver (v : View) (share : Share) : Type 0 where
  pub fits : All (IsPoly v.fixed.known.params.q v.fixed.known.params.n) share.rows
  pub few : length share.rows < 2 ^ 32
  pub honest : v.fixed.known.tells ≡ true → IsShareThere v.fixed.known.setting v.fixed.known.seeds (state_seen v) share

-- an input under a public key that is complete: the honest one
pub record IsInputThere (w : Setting) (seeds : List (List ℕ)) (s : State) (c k : ℕ) (ct : Cipher) : Type 0 where
  pub complete : has_done Pk s.instances ≡ true
  pub honest : ct ≡ input_of w seeds (key_in w seeds s.instances) c k

pub record MayGive (v : View) (c k : ℕ) (ct : Cipher) : Type 0 where
  pub fits : CipherFits v.fixed.known.params.q v.fixed.known.params.n ct
  pub honest : v.fixed.known.tells ≡ true → is_input (rules v.fixed.known.setting) c k ≡ true
      → IsInputThere v.fixed.known.setting v.fixed.known.seeds (state_seen v) c k ct

-- the output of a circuit, if the caller has taken that
pub record MayFinish (v : View) (c : ℕ) (ct : Cipher) : Type 0 where
  pub fits : CipherFits v.fixed.known.params.q v.fixed.known.params.n ct
  pub honest : v.fixed.known.tells ≡ true → is_taken_by v.fixed.caller (circuit (state_seen v).circuits c) ≡ true
      → ct ≡ output_of v.fixed.known.setting v.fixed.known.seeds
      (keys_in v.fixed.known.setting v.fixed.known.seeds (state_seen v).instances c) c

-- ---- a session is a desk of caller 0, who is alone

module _ {R : Type 0} {K : Ghosts R} where
  abbrev pub session_fixture : Session R K → Fixture
  session_fixture s = record {
    known = known s;
    caller = 0;
    alone = true;
    lent = [];
    lock = None;
    earlier = [];
  }

  abbrev pub session_view : Session R K → View
  session_view s = record {
    fixed = session_fixture s;
    seen = s.log.items;
    mine = own 0 s.log.items;
  }

  pub session_seen : (s : Session R K) → IsSeen (session_view s)
  session_seen s = record {
    numbers = refl;
    legal = s.legal;
    mine = record { later = s.log.items; seen = refl; mine = refl };
    some = s.sound.some;
    most = s.sound.most;
    few = s.sound.few;
    modest = s.sound.modest;
    values = s.sound.values;
  }
