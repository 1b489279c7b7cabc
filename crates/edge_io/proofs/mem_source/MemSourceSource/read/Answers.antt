-- What was copied is the front of what was left, and the others are left now.
use Rattle.std.proofs.Common.{vec_len, ◌≡◌, ℕ, ◌+◌, ◌-◌, ◌≤◌, List, [], ◌++◌, length, take, drop, arith, sym, ap, ◌∙◌, length-drop}
use Rattle.std.proofs.lemmas.List.{take-append-drop, take-append-le, take-take, length-take-le, drop-drop}
use Rattle.std.proofs.lemmas.Grind.{common_steps}
use Rattle.edge_io.proofs.mem_source.MemSourceSource.read.Goals as goal

-- what is left at a place: what was copied to the front of a buffer, and what is left behind it
copied-front : (all buffer copied : List ℕ) (place count : ℕ) → place + count ≤ length all
    → copied ≡ take (place + count - place) (drop place all)
    → drop place all ≡ take count (copied ++ buffer) ++ drop (place + count) all
copied-front all buffer copied place count fits is =
    let size : place + count - place ≡ count = omega arith in
    let copy : copied ≡ take count (drop place all) = is ∙ ap (λ n. take n (drop place all)) size in
    let room : count ≤ length (drop place all) = rw (length-drop place all) (omega arith) in
    let long : count ≤ length (take count (drop place all)) = rw (length-take-le count (drop place all) room) (omega arith) in
    let front : take count (copied ++ buffer) ≡ take count (drop place all) =
    rw (copy, take-append-le count (take count (drop place all)) buffer long) (take-take count count (drop place all) (omega arith)) in
    rw (front, ← drop-drop count place all) (sym (take-append-drop count (drop place all)))

-- behind the end nothing is left
none-left : (all : List ℕ) (place : ℕ) → length all ≤ place → drop place all ≡ []
none-left all place past = grind (arith, common_steps)

pub returns-clause-bytes : goal.returns-clause-bytes
returns-clause-bytes c =
    let all = c.self.inside.bytes.items in
    let next = c.self.inside.next in
    let count = c.min-count.result in
    let size : length all ≡ vec_len c.self.inside.bytes = ap length (sym c.deref-2.ensures.value) ∙ c.deref-2.ensures.len in
    let place : next ≤ vec_len c.self.inside.bytes = c.self.invariant in
    let copied : c.copy_from_slice.new.self ≡ take (next + count - next) (drop next all) =
    c.copy_from_slice.ensures.after ∙ ap (λ l. take (next + count - next) (drop next l)) c.deref-2.ensures.value in
    rw (← c.self.view_is) (
      copied-front all _ _ _ _ (omega (arith, size, place, c.min-count.ensures, c.len.ensures)) copied,
      λ none room. none-left all _ (grind (arith, common_steps, size, place, none, room, c.min-count.ensures, c.len.ensures, c.copy_from_slice.ensures.len)),
    )
