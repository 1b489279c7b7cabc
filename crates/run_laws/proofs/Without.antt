-- Lists with no task of some kind.
use Rattle.std.proofs.Common.{◌≡◌, sym, subst, refl, ℕ, Bool, false, List, [], ◌∷◌, ◌++◌, map, Option, Some, None}
use Rattle.std.specs.List.{flat_map, list_any}
use Rattle.std.proofs.lemmas.Bool.{or_parts, or_from}
use Rattle.std.proofs.lemmas.List.{append_assoc}
use Rattle.share_spec.specs.Sets.{members}
use Rattle.session_rules.specs.declared.call.Call.{Call}
use Rattle.session_rules.specs.declared.line.Line.{Line}
use Rattle.session_rules.specs.declared.line.Line.TheVariants as line
use Rattle.session_rules.specs.States.{State}
use Rattle.session_rules.specs.Tasks.{Task, begin, does, shares, gives, exhausts, Held, Left, Lists, task_call, passed, dropped, at_call, gives_at, owing}
use Rattle.session_rules.specs.Courses.{joins, sends, lane_tasks, serial_tasks, round_tasks}
use Rattle.run_laws.proofs.Dropped.{drop_none, drop_some, drop_nil}

module _ (kind : Task → Bool) where
  abbrev pub HasNone : List Task → Type 0
  HasNone ts = list_any kind ts ≡ false

  pub none_first : (t : Task) (ts : List Task) → HasNone (t ∷ ts) → kind t ≡ false
  none_first t ts n = (or_parts (kind t) (list_any kind ts) n).0

  pub none_behind : (t : Task) (ts : List Task) → HasNone (t ∷ ts) → HasNone ts
  none_behind t ts n = (or_parts (kind t) (list_any kind ts) n).1

  -- so it stays where tasks that call nothing are dropped
  none_then : (hand : Option Held) (t : Task) (ts : List Task) → HasNone (t ∷ ts) → HasNone (dropped (passed hand t) ts).tasks → (o : Option Call) → task_call hand t ≡ o → HasNone (dropped hand (t ∷ ts)).tasks
  none_then hand t ts all more None e = subst (λ (z : Left). HasNone z.tasks) (sym (drop_none hand t ts e)) more
  none_then hand t ts all more (Some c) e = subst (λ (z : Left). HasNone z.tasks) (sym (drop_some hand t ts c e)) all

  pub none_dropped : (hand : Option Held) (ts : List Task) → HasNone ts → HasNone (dropped hand ts).tasks
  none_dropped hand [] n = subst (λ (z : Left). HasNone z.tasks) (sym (drop_nil hand)) refl
  none_dropped hand (t ∷ ts) n = none_then hand t ts n (none_dropped (passed hand t) ts (none_behind t ts n)) (task_call hand t) refl

  pub none_at : (todo : Left) → HasNone todo.tasks → HasNone (at_call todo).tasks
  unfolding at_call
  none_at todo n = none_dropped todo.hand todo.tasks n

  -- and with shares and inputs before them
  shares_none : ((p id : ℕ) → kind (shares p id) ≡ false) → (p : ℕ) (ids : List ℕ) (ts : List Task) → HasNone ts → HasNone (map (shares p) ids ++ ts)
  shares_none h p [] ts n = n
  shares_none h p (id ∷ ids) ts n = or_from (kind (shares p id)) (list_any kind (map (shares p) ids ++ ts)) (h p id) (shares_none h p ids ts n)

  gives_none : ((c k : ℕ) → kind (gives c k) ≡ false) → (places : List (ℕ × ℕ)) (ts : List Task) → HasNone ts → HasNone (map gives_at places ++ ts)
  gives_none h [] ts n = n
  gives_none h (x ∷ xs) ts n = or_from (kind (gives x.0 x.1)) (list_any kind (map gives_at xs ++ ts)) (h x.0 x.1) (gives_none h xs ts n)

  pub owing_none : ((p id : ℕ) → kind (shares p id) ≡ false) → ((c k : ℕ) → kind (gives c k) ≡ false) → (p : ℕ) (o : Option Lists) (ts : List Task) → HasNone ts → HasNone (owing p o ++ ts)
  unfolding owing
  owing_none h g p None ts n = n
  owing_none h g p (Some owed) ts n =
      subst HasNone (sym (append_assoc (map (shares p) owed.ids) (map gives_at owed.inputs) ts)) (shares_none h p owed.ids (map gives_at owed.inputs ++ ts) (gives_none g owed.inputs ts n))

  -- nor have those who join or send, and lanes, a task of a kind of which lines and their beginning aren't
  joins_none : ((l : Line) → kind (does l) ≡ false) → (ps : List ℕ) (ts : List Task) → HasNone ts → HasNone (map joins ps ++ ts)
  joins_none h [] ts n = n
  joins_none h (p ∷ ps) ts n = or_from (kind (joins p)) (list_any kind (map joins ps ++ ts)) (h (line.Join p)) (joins_none h ps ts n)

  pub sends_none : ((l : Line) → kind (does l) ≡ false) → (ps : List ℕ) (ts : List Task) → HasNone ts → HasNone (map sends ps ++ ts)
  sends_none h [] ts n = n
  sends_none h (p ∷ ps) ts n = or_from (kind (sends p)) (list_any kind (map sends ps ++ ts)) (h (line.Send p)) (sends_none h ps ts n)

  lines_none : ((l : Line) → kind (does l) ≡ false) → (lane : List Line) (ts : List Task) → HasNone ts → HasNone (map does lane ++ ts)
  lines_none h [] ts n = n
  lines_none h (x ∷ xs) ts n = or_from (kind (does x)) (list_any kind (map does xs ++ ts)) (h x) (lines_none h xs ts n)

  lanes_none : ((l : Line) → kind (does l) ≡ false) → kind begin ≡ false → (lanes : List (List Line)) → HasNone (flat_map lane_tasks lanes)
  lanes_none h b [] = refl
  lanes_none h b (lane ∷ lanes) =
      or_from (kind begin) (list_any kind (map does lane ++ flat_map lane_tasks lanes)) b (lines_none h lane (flat_map lane_tasks lanes) (lanes_none h b lanes))

  pub serial_none : ((l : Line) → kind (does l) ≡ false) → kind begin ≡ false → (present : List ℕ) (lanes : List (List Line)) → HasNone (serial_tasks present lanes)
  unfolding serial_tasks
  serial_none h b present lanes = joins_none h present (flat_map lane_tasks lanes) (lanes_none h b lanes)

  pub round_none : ((l : Line) → kind (does l) ≡ false) → kind exhausts ≡ false → (s : State) → HasNone (round_tasks s)
  unfolding round_tasks
  round_none h e s = sends_none h (members s.present) (exhausts ∷ []) (or_from (kind exhausts) false e refl)
