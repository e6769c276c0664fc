-- `bits` meets its contract: the bits that are left are counted on from the 1s so far.
-- Assumes nothing.
use Rattle.std.proofs.Common.{◌≡◌, ◌+◌, ◌-◌, ◌<◌, ◌≤◌, ℕ, length, sym, ap, ◌∙◌, arith}
use lib.ListN.{take, drop}
use Rattle.field.specs.Read.{Read.got}
use Rattle.word.proofs.BitCounts.{bit_missing, bit_got, bit_unknown, lent_many, lent_bit, count_start, count_more, count_refused, count_all}
use Rattle.word.proofs.bits.Goals as goal
use Rattle.word.proofs.bits.Goals.{After-min-there}

-- how many bits are there, of the n that are wanted
many : (c : After-min-there) → (length (take c.min-there.result (take (length c.args.s.now - c.args.start.at) (drop c.args.start.at c.args.s.now))) ≡ c.min-there.result)
    × (c.min-there.result ≤ length c.args.s.now - c.args.start.at)
    × (c.min-there.result ≤ c.args.n)
    × (c.min-there.result < c.args.n → c.min-there.result ≡ length c.args.s.now - c.args.start.at)
many c = lent_many c.args.s.now c.args.start.at c.args.n c.min-there.result c.min-there.ensures

pub returns-then-b-gt1-clause-read : goal.returns-then-b-gt1-clause-read
returns-then-b-gt1-clause-read c =
    let inside : (c.loop-i.i < c.min-there.result) × (c.min-there.result ≤ length c.args.s.now - c.args.start.at) × (c.min-there.result ≤ c.args.n) =
    let m = many (goal.at.returns-then-b-gt1-clause-read c).After-min-there in (omega (arith, m), m.1, m.2) in
    let room = inside.2 in
    let there : c.args.start.at + c.loop-i.i < length c.args.s.now = omega (arith, inside) in
    let bit = lent_bit c.args.s.now c.args.start.at c.min-there.result c.loop-i.i inside.0 inside.1 in
    let more = count_refused (c.args.n - c.loop-i.i) c.args.s.now c.loop-i.ones (c.args.start.at + c.loop-i.i) _ _ (omega (arith, room))
    (bit_unknown c.args.s.now (c.args.start.at + c.loop-i.i) _ there (sym bit) (omega arith)) in
    rw c.at.ensures (sym (count_start _ _ _ ∙ c.loop-i.invariant.so_far ∙ more))

pub loop-i-preserved : goal.loop-i-preserved
loop-i-preserved c =
    let inside : (c.loop-i.i < c.min-there.result) × (c.min-there.result ≤ length c.args.s.now - c.args.start.at) × (c.min-there.result ≤ c.args.n) =
    let m = many (goal.at.loop-i-preserved c).After-min-there in (omega (arith, m), m.1, m.2) in
    let room = inside.2 in
    let there : c.args.start.at + c.loop-i.i < length c.args.s.now = omega (arith, inside) in
    let bit = lent_bit c.args.s.now c.args.start.at c.min-there.result c.loop-i.i inside.0 inside.1 in
    let less : c.args.n - c.loop-i.i - 1 ≡ c.args.n - (c.loop-i.i + 1) = omega arith in
    let past : c.args.start.at + c.loop-i.i + 1 ≡ c.args.start.at + (c.loop-i.i + 1) = omega arith in
    let more = count_more (c.args.n - c.loop-i.i) c.args.s.now c.loop-i.ones (c.args.start.at + c.loop-i.i) _ _ (omega (arith, room))
    (bit_got c.args.s.now (c.args.start.at + c.loop-i.i) _ there (sym bit) (omega arith)) in
    record { few = omega arith; so_far = c.loop-i.invariant.so_far ∙ rw (← less, ← past) more }

pub returns-then-there-n-clause-read : goal.returns-then-there-n-clause-read
returns-then-there-n-clause-read c =
    let there = many (goal.at.returns-then-there-n-clause-read c).After-min-there in
    let all : c.loop-i.i ≡ c.min-there.result = omega (arith, there) in
    let short : length c.args.s.now ≤ c.args.start.at + c.min-there.result = omega (arith, there) in
    let more = count_refused (c.args.n - c.min-there.result) c.args.s.now c.loop-i.ones (c.args.start.at + c.min-there.result) _ _ (omega arith) (bit_missing c.args.s.now _ short) in
    let so_far = rw all at c.loop-i.invariant.so_far in
    rw c.refusal.ensures (sym (count_start _ _ _ ∙ so_far ∙ more))

pub returns : goal.returns
returns c =
    let there = many (goal.at.returns c).After-min-there in
    let all : c.loop-i.i ≡ c.min-there.result = omega (arith, there) in
    let none : c.args.n - c.loop-i.i ≡ 0 = omega (arith, there) in
    record {
      read = ap (λ (x : ℕ). got c.loop-i.ones (c.args.start.at + x)) (sym all) ∙ sym (count_start _ _ _ ∙ c.loop-i.invariant.so_far ∙ count_all _ _ _ _ none);
      there = omega (arith, there);
    }
