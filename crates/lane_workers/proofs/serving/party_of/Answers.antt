use Rattle.std.proofs.Common.{◌≡◌, ◌∙◌, sym, ap, subst, ℕ, zero, suc, ◌+◌, ◌-◌, ◌<◌, List, length, get_or, arith}
use Rattle.std.specs.List.{range_with_len}
use Rattle.std.proofs.lemmas.List.{get_or-map, length-map}
use Rattle.session_rules.proofs.Weights.{range_length}
use Rattle.lane_workers.specs.Acting.{Acts}
use Rattle.lane_workers.specs.Desks.{known_of}
use Rattle.lane_workers.proofs.serving.party_of.Goals as goal

-- the number at a place of a range
range_at : (a n k d : ℕ) → k < n → get_or (range_with_len a n) k d ≡ a + k
range_at a zero k d less = absurd (omega (arith, less))
range_at a (suc n) zero d less = omega arith
range_at a (suc n) (suc k) d less = range_at (a + 1) n k d (omega (arith, less)) ∙ omega arith

pub bounds-parties-p : goal.bounds-parties-p
bounds-parties-p g c =
    let numbers = g.P.Party.number in
    let n = (known_of (g.D.Desk.view c.args._desk.now)).params.parties in
    let long : length c.args.parties.now ≡ n = sym (length-map c.args.parties.now numbers) ∙ ap length c.requires.parties.numbers ∙ range_length 1 n in
    let some_ = c.requires.party.0 in
    let most = c.requires.party.1 in
    omega (arith, long, some_, most)

pub offset_bounds-parties-p : goal.offset_bounds-parties-p
offset_bounds-parties-p g c =
    let numbers = g.P.Party.number in
    let n = (known_of (g.D.Desk.view c.args._desk.now)).params.parties in
    let long : length c.args.parties.now ≡ n = sym (length-map c.args.parties.now numbers) ∙ ap length c.requires.parties.numbers ∙ range_length 1 n in
    let most = c.requires.party.1 in
    omega (arith, long, most)

pub returns-clause-acts : goal.returns-clause-acts
returns-clause-acts g c =
    let k = known_of (g.D.Desk.view c.args._desk.now) in
    let numbers = g.P.Party.number in
    let long : length c.args.parties.now ≡ k.params.parties = sym (length-map c.args.parties.now numbers) ∙ ap length c.requires.parties.numbers ∙ range_length 1 k.params.parties in
    let some_ = c.requires.party.0 in
    let most = c.requires.party.1 in
    let x = c.index-parties-p.result in
    subst (λ z. Acts g.P.Party k z) (sym c.index-parties-p.is) (c.requires.parties.each (c.args.p - 1) x (omega (arith, long, some_, most)))

pub returns-clause-number : goal.returns-clause-number
returns-clause-number g c =
    let k = known_of (g.D.Desk.view c.args._desk.now) in
    let n = k.params.parties in
    let numbers = g.P.Party.number in
    let ps = c.args.parties.now in
    let long : length ps ≡ n = sym (length-map ps numbers) ∙ ap length c.requires.parties.numbers ∙ range_length 1 n in
    let some_ = c.requires.party.0 in
    let most = c.requires.party.1 in
    let x = c.index-parties-p.result in
    let back : 1 + (c.args.p - 1) ≡ c.args.p = omega (arith, some_) in
    ap numbers c.index-parties-p.is ∙ sym (get_or-map numbers ps (c.args.p - 1) x 0 (omega (arith, long, some_, most)))
    ∙ ap (λ (z : List ℕ). get_or z (c.args.p - 1) 0) c.requires.parties.numbers ∙ range_at 1 n (c.args.p - 1) 0 (omega (arith, some_, most)) ∙ back
