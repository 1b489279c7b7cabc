-- What a desk was told stands behind whatever is called later.
use Rattle.std.proofs.Common.{◌≡◌, ◌∙◌, sym, ap, subst, refl, ℕ, List, [], ◌∷◌, ◌++◌, Option, Some, None}
use Rattle.std.specs.Prelude.{IfSome}
use Rattle.std.specs.declared.alloc.Global.{Global}
use Rattle.std.specs.declared.sync.Arc.{Arc}
use Rattle.proto_names.specs.Instances.{instance}
use Rattle.proto_names.specs.Roles.{Role, role_of}
use Rattle.proto_names.specs.declared.instance.Instance.{Instance}
use Rattle.instance_table.specs.Tables.{brief_role}
use Rattle.instance_table.specs.declared.brief.Brief.{Brief}
use Rattle.party_roll.specs.Briefs.{IsBrief}
use Rattle.session_rules.specs.declared.call.Call.TheVariants as call
use Rattle.session_rules.specs.declared.call.Entry.{Entry}
use Rattle.session_rules.specs.declared.reply.Reply.{Reply}
use Rattle.session_rules.specs.declared.fixed.Fixed.{Fixed}
use Rattle.session_rules.specs.States.{State}
use Rattle.session_rules.specs.Steps.{step, judge}
use Rattle.session_rules.specs.Facts.{IsLive, Kept}
use Rattle.session_rules.specs.Tasks.{entry, briefed}
use Rattle.session_rules.proofs.Keeps.{histories_keep}
use Rattle.session_rules.proofs.Marks.{instance_id}
use Rattle.session_spec.specs.Settings.{Setting, rules}
use Rattle.session_spec.specs.Shares.{share_rows}
use Rattle.session_spec.specs.Outputs.{keys_in, polys_of, share_of}
use Rattle.session_laws.specs.Constancy.{LeadsOn}
use Rattle.session_laws.proofs.Constancy.{histories_lead_on, found_later, issued_ones_stay}
use Rattle.session_state.specs.Handed.{brief_reply}
use Rattle.session_state.specs.declared.handed.Briefing.{Briefing}
use Rattle.session_core.specs.Sessions.{Known, said}
use Rattle.lane_workers.specs.declared.holding.Holding.{Holding}
use Rattle.lane_workers.specs.Desks.{Fixture, View, Answered, TellsOf, ShowsBrief, behind, known_of, state_seen}
use Rattle.lane_workers.specs.Hands.{CanBring, HandFits}
use Rattle.lane_workers.proofs.Bringing.{IsTold, is_told, silent}

-- ---- a longer history

-- a history leads on to a longer one
pub leads_to : (k : Known) (es fs more : List Entry) → fs ≡ es ++ more → LeadsOn k.setting (behind k es) (behind k fs)
leads_to k es fs more e = subst (λ (z : List Entry). LeadsOn k.setting (behind k es) (behind k z)) (sym e) (histories_lead_on k.setting es more)

-- an instance that a desk has a brief of is the same later, and so is the share that is wanted of it
pub brings_later : (k : Known) (s t : State) (p : ℕ) (b : Brief) → LeadsOn k.setting s t → CanBring k s p b → CanBring k t p b
brings_later k s t p b y x =
    let later = found_later s t b.id x.item y.later x.issued in
    let on = issued_ones_stay k.setting k.seeds s t b.id x.item y x.issued in
    let it : on.0 ≡ later.now = let both : Some on.0 ≡ Some later.now = sym on.1 ∙ later.there in cc in
    let same : share_of k.setting k.seeds (keys_in k.setting k.seeds s.instances) x.item p ≡ share_of k.setting k.seeds (keys_in k.setting k.seeds t.instances) later.now p =
    on.2.shares p ∙ ap (λ (z : Instance). share_of k.setting k.seeds (keys_in k.setting k.seeds t.instances) z p) it in
    record {
      made = x.made;
      item = later.now;
      issued = later.there;
      signature = x.signature ∙ sym later.same.signature;
      honest = λ told. x.honest told ∙ same;
    }

fits_later : (k : Known) (s t : State) (hand : Option Holding) → LeadsOn k.setting s t → HandFits k s hand → HandFits k t hand
fits_later k s t None y x = x
fits_later k s t (Some h) y x = record { party = x.party; brings = brings_later k s t h.p h.brief.value y x.brings }

-- whatever is called, what is in hand fits
pub hand_on : (v w : View) (more : List Entry) (hand : Option Holding) → w.fixed ≡ v.fixed → w.seen ≡ v.seen ++ more → HandFits (known_of v) (state_seen v) hand → HandFits (known_of w) (state_seen w) hand
hand_on v w more hand same seen x =
    subst (λ (z : Fixture). HandFits z.known (behind z.known w.seen) hand) (sym same) (fits_later (known_of v) (state_seen v) (behind (known_of v) w.seen) hand (leads_to (known_of v) v.seen w.seen more seen) x)

-- ---- a brief that is handed out

at_brief : (P : Brief → Type 0) (o : Option (Arc Brief Global)) (x : Arc Brief Global) → o ≡ Some x → IfSome o (λ z. P z.value) → P x.value
at_brief P None x e h = cc
at_brief P (Some y) x e h = let same : y ≡ x = cc in subst (λ (z : Arc Brief Global). P z.value) same h

-- it is told of an instance that is issued
told_here : (f : Fixed) (s : State) (who id : ℕ) (b : Brief) → (step f s who (call.Brief id)).0 ≡ brief_reply b → IsTold s id b.signature b.set
unfolding step judge
told_here f s who id b e = is_told s id b.signature b.set e

-- whoever asks
asked_by : (f : Fixed) (s : State) (who id : ℕ) → (step f s who (call.Brief id)).0 ≡ (step f s 0 (call.Brief id)).0
unfolding step judge
asked_by f s who id = refl

-- where no brief comes there is none
pub silent_here : (f : Fixed) (s : State) (who id : ℕ) → ((i : Instance) → instance s.instances id ≡ Some i → IsLive i → ⊥) → briefed (step f s who (call.Brief id)).0 ≡ None
silent_here f s who id never = ap briefed (asked_by f s who id) ∙ silent f s id never

-- the role that a brief tells is its instance's
role_told_of : (i : Instance) (b : Brief) → TellsOf i b → brief_role b ≡ role_of i
role_told_of i b t = rw (t.signature, t.id, t.set, t.round1, t.group) refl

honest_share : (w : Setting) (seeds : List (List ℕ)) (s : State) (i : Instance) (b : Brief) (p : ℕ) → TellsOf i b → b.polys ≡ polys_of w seeds (keys_in w seeds s.instances) (brief_role b)
    → share_rows w seeds (brief_role b) b.polys p ≡ share_of w seeds (keys_in w seeds s.instances) i p
unfolding share_of
honest_share w seeds s i b p t polys =
    let keys = keys_in w seeds s.instances in
    let is = role_told_of i b t in
    ap (λ (role : Role). share_rows w seeds role b.polys p) is
    ∙ ap (λ (all : List (List ℕ)). share_rows w seeds (role_of i) all p) (polys ∙ ap (λ (role : Role). polys_of w seeds keys role) is)

-- a brief of the instance that was asked for, from which a party can make its share
pub record IsBriefed (k : Known) (s : State) (id p : ℕ) (r : Reply) (b : Brief) : Type 0 where
  pub number : b.id ≡ id
  pub goes : r ≡ brief_reply b
  pub brings : CanBring k s p b

-- behind a history, from the reply to the asking
pub briefed_there : (k : Known) (es : List Entry) (who id p : ℕ) (x : Briefing) (a : Arc Brief Global) → x.reply ≡ (said k es who (call.Brief id)).0
    → ShowsBrief id k (behind k es) x → x.brief ≡ Some a → IsBriefed k (behind k es) id p x.reply a.value
briefed_there k es who id p x a said_ h is =
    let f = rules k.setting in
    let s = behind k es in
    let b = a.value in
    let goes : x.reply ≡ brief_reply b = at_brief (λ z. x.reply ≡ brief_reply z) x.brief a is h.goes in
    let there = told_here f s who id b (sym said_ ∙ goes) in
    let tells = at_brief (λ z. (i : Instance) → instance s.instances id ≡ Some i → TellsOf i z) x.brief a is h.told there.item there.found in
    let kept : Kept f s = histories_keep f es in
    let number : b.id ≡ id = tells.id ∙ instance_id s.instances id there.item kept.numbered there.found in
    record {
      number = number;
      goes = goes;
      brings = record {
        made = at_brief (λ z. IsBrief k.params z) x.brief a is h.made;
        item = there.item;
        issued = ap (instance s.instances) number ∙ there.found;
        signature = tells.signature;
        honest = λ t.
            honest_share k.setting k.seeds s there.item b p tells
            (at_brief (λ z. z.polys ≡ polys_of k.setting k.seeds (keys_in k.setting k.seeds s.instances) (brief_role z)) x.brief a is (h.honest t));
      };
    }

-- so in the view of a desk that asked
pub brief_brought : (v w : View) (id p : ℕ) (x : Briefing) (a : Arc Brief Global) → w.fixed ≡ v.fixed → Answered v w (call.Brief id) x.reply (ShowsBrief id) x
    → x.brief ≡ Some a → IsBriefed (known_of v) (state_seen w) id p x.reply a.value
brief_brought v w id p x a same y is =
    let k = known_of v in
    let asked = v.seen ++ y.others in
    let e = entry v.fixed.caller (call.Brief id) x.reply ∷ [] in
    let z = briefed_there k asked v.fixed.caller id p x a y.reply y.hands is in
    let now : behind k w.seen ≡ state_seen w = ap (λ (f : Fixture). behind f.known w.seen) (sym same) in
    record {
      number = z.number;
      goes = z.goes;
      brings = subst (λ (s : State). CanBring k s p a.value) now (brings_later k (behind k asked) (behind k w.seen) p a.value (leads_to k asked w.seen e y.seen) z.brings);
    }

-- and where it has none, none was told
pub none_briefed : (v w : View) (id : ℕ) (x : Briefing) → Answered v w (call.Brief id) x.reply (ShowsBrief id) x → x.brief ≡ None → briefed x.reply ≡ None
none_briefed v w id x y none =
    let k = known_of v in
    ap briefed y.reply ∙ silent_here (rules k.setting) (behind k (v.seen ++ y.others)) v.fixed.caller id (λ i found alive. y.hands.there i found alive none)
