-- What is to be done once a desk has replied.
use Rattle.std.proofs.Common.{◌≡◌, subst, refl, ℕ, List, [], ◌∷◌, ◌++◌, map, Some, None}
use Rattle.std.specs.Option.{option_map}
use Rattle.proto_names.specs.declared.signature.Signature.{Signature}
use Rattle.session_rules.specs.declared.call.Call.TheVariants as call
use Rattle.session_rules.specs.declared.reply.Reply.{Reply}
use Rattle.session_rules.specs.declared.reply.Reply.TheVariants as reply
use Rattle.session_rules.specs.Tasks.{shares, delivers, finishes, returns, exhausts, listed, briefed, job, gives_at, owing, share_for, delivering, evaluating, returning, exhausting}
use Rattle.session_rules.specs.Courses.{sends}
use Rattle.lane_workers.specs.Desks.{View, Hands, Answered, rules_of}
use Rattle.lane_workers.specs.Doing.{Doing, Did, works, quits}
use Rattle.lane_workers.proofs.Going.{calls, told_so}

no_share : (l p id : ℕ) (r : Reply) → briefed r ≡ None → delivering (option_map (share_for l p id) (briefed r)) ≡ []
unfolding delivering
no_share l p id r e = rw e refl

one_share : (l p id : ℕ) (r : Reply) (σ : Signature) → briefed r ≡ Some σ → delivering (option_map (share_for l p id) (briefed r)) ≡ delivers (share_for l p id σ) ∷ []
unfolding delivering
one_share l p id r σ e = rw e refl

all_owed : (p : ℕ) (r : Reply) (ids : List ℕ) (places : List (ℕ × ℕ)) → r ≡ reply.List ids places → owing p (listed r) ≡ map (shares p) ids ++ map gives_at places
unfolding owing
all_owed p r ids places e = rw e refl

unlisted : (r : Reply) → ((ids : List ℕ) (places : List (ℕ × ℕ)) → r ≡ reply.List ids places → ⊥) → listed r ≡ None
unlisted (reply.List ids places) h = absurd (h ids places refl)
unlisted other h = refl

none_owed : (p : ℕ) (r : Reply) → ((ids : List ℕ) (places : List (ℕ × ℕ)) → r ≡ reply.List ids places → ⊥) → owing p (listed r) ≡ []
unfolding owing
none_owed p r h = rw (unlisted r h) refl

one_job : (r : Reply) (c : ℕ) → job r ≡ Some c → exhausting (job r) ≡ finishes c ∷ exhausts ∷ []
unfolding exhausting
one_job r c e = rw e refl

last_job : (r : Reply) → job r ≡ None → exhausting (job r) ≡ []
unfolding exhausting
last_job r e = rw e refl

one_work : (r : Reply) (c : ℕ) → job r ≡ Some c → evaluating (job r) ≡ finishes c ∷ []
unfolding evaluating
one_work r c e = rw e refl

no_work : (r : Reply) → job r ≡ None → evaluating (job r) ≡ []
unfolding evaluating
no_work r e = rw e refl

one_return : (r : Reply) (c : ℕ) → job r ≡ Some c → returning (job r) ≡ returns c ∷ []
unfolding returning
one_return r c e = rw e refl

no_return : (r : Reply) → job r ≡ None → returning (job r) ≡ []
unfolding returning
no_return r e = rw e refl

-- of an instance that was asked for
pub share_owed : {X : Type 0} (p id : ℕ) (r : Reply) (σ : Signature) (H : Hands X) (x : X) (v w : View) → Answered v w (call.Brief id) r H x → briefed r ≡ Some σ
    → Doing (shares p id ∷ []) (delivers (share_for (rules_of v).rows p id σ) ∷ []) v w
share_owed p id r σ H x v w a e =
    told_so (shares p id ∷ []) _ (delivers (share_for (rules_of v).rows p id σ) ∷ []) v w (one_share (rules_of v).rows p id r σ e)
    (calls (shares p id) (call.Brief id) r H x v w refl refl a)

pub no_share_owed : {X : Type 0} (p id : ℕ) (r : Reply) (H : Hands X) (x : X) (v w : View) → Answered v w (call.Brief id) r H x → briefed r ≡ None → Did (shares p id ∷ []) v w
no_share_owed p id r H x v w a e = told_so (shares p id ∷ []) _ [] v w (no_share (rules_of v).rows p id r e) (calls (shares p id) (call.Brief id) r H x v w refl refl a)

-- of all that a party owes
asked : {X : Type 0} (n p : ℕ) (r : Reply) (H : Hands X) (x : X) (v w : View) → n ≡ p → Answered v w (call.Pending n) r H x → Doing (sends p ∷ []) (owing p (listed r)) v w
asked n p r H x v w same a = calls (sends p) (call.Pending p) r H x v w refl refl (subst (λ (z : ℕ). Answered v w (call.Pending z) r H x) same a)

pub lists_owed : {X : Type 0} (n p : ℕ) (r : Reply) (ids : List ℕ) (places : List (ℕ × ℕ)) (H : Hands X) (x : X) (v w : View) → n ≡ p → Answered v w (call.Pending n) r H x → r ≡ reply.List ids places
    → Doing (sends p ∷ []) (map (shares p) ids ++ map gives_at places) v w
lists_owed n p r ids places H x v w same a e = told_so (sends p ∷ []) _ (map (shares p) ids ++ map gives_at places) v w (all_owed p r ids places e) (asked n p r H x v w same a)

pub no_lists_owed : {X : Type 0} (n p : ℕ) (r : Reply) (H : Hands X) (x : X) (v w : View) → n ≡ p → Answered v w (call.Pending n) r H x → ((ids : List ℕ) (places : List (ℕ × ℕ)) → r ≡ reply.List ids places → ⊥)
    → Did (sends p ∷ []) v w
no_lists_owed n p r H x v w same a e = told_so (sends p ∷ []) _ [] v w (none_owed p r e) (asked n p r H x v w same a)

-- of a circuit that was asked for
pub job_owed : {X : Type 0} (c : ℕ) (r : Reply) (H : Hands X) (x : X) (v w : View) → Answered v w call.Take r H x → job r ≡ Some c → Doing (exhausts ∷ []) (finishes c ∷ exhausts ∷ []) v w
job_owed c r H x v w a e = told_so (exhausts ∷ []) _ (finishes c ∷ exhausts ∷ []) v w (one_job r c e) (calls exhausts call.Take r H x v w refl refl a)

pub no_job_owed : {X : Type 0} (r : Reply) (H : Hands X) (x : X) (v w : View) → Answered v w call.Take r H x → job r ≡ None → Did (exhausts ∷ []) v w
no_job_owed r H x v w a e = told_so (exhausts ∷ []) _ [] v w (last_job r e) (calls exhausts call.Take r H x v w refl refl a)

-- of a line of a lane that asked for a circuit
pub work_owed : {X : Type 0} (c : ℕ) (r : Reply) (H : Hands X) (x : X) (v w : View) → Answered v w call.Take r H x → job r ≡ Some c → Doing (works ∷ []) (finishes c ∷ []) v w
work_owed c r H x v w a e = told_so (works ∷ []) _ (finishes c ∷ []) v w (one_work r c e) (calls works call.Take r H x v w refl refl a)

pub no_work_owed : {X : Type 0} (r : Reply) (H : Hands X) (x : X) (v w : View) → Answered v w call.Take r H x → job r ≡ None → Did (works ∷ []) v w
no_work_owed r H x v w a e = told_so (works ∷ []) _ [] v w (no_work r e) (calls works call.Take r H x v w refl refl a)

pub return_owed : {X : Type 0} (c : ℕ) (r : Reply) (H : Hands X) (x : X) (v w : View) → Answered v w call.Take r H x → job r ≡ Some c → Doing (quits ∷ []) (returns c ∷ []) v w
return_owed c r H x v w a e = told_so (quits ∷ []) _ (returns c ∷ []) v w (one_return r c e) (calls quits call.Take r H x v w refl refl a)

pub no_return_owed : {X : Type 0} (r : Reply) (H : Hands X) (x : X) (v w : View) → Answered v w call.Take r H x → job r ≡ None → Did (quits ∷ []) v w
no_return_owed r H x v w a e = told_so (quits ∷ []) _ [] v w (no_return r e) (calls quits call.Take r H x v w refl refl a)
