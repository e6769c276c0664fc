-- Which results are taken and normal: those of not and on that keep to the limits of l, k and K, a declared one with room, and every word's.
-- Assumes nothing.
use mathlib.Core.Path.{◌≡◌, sym, ap, ap₂, ◌∙◌, subst}
use mathlib.Core.List.{List}
use Prim.Native.Nat.{ℕ, zero, suc, ◌+◌, ◌-◌, ◌*◌, ◌/◌, ◌≤◌, ◌<◌, ◌∣◌}
use native.Mathlib.Nat.{mul-pos, mul-le-mul, mul-zero, zero-mul, div-mul_cancel, div-le_self, le_of_mul-le-mul_right, dvd-sub, dvd-one}
use native.Mathlib.Decide.{dec_le}
use native.Mathlib.Omega.{arith}
use lib.IntN.{ℤ, pos, ◌-ℤ◌}
use lib.Signed.{◌≤ℤ◌}
use lib.ListN.{length}
use mathlib.Core.Bool.{Bool, true}
use Rattle.whole.specs.Euclid.{gcd_of}
use Rattle.whole.specs.Laws.{IsGcd}
use Rattle.whole.proofs.Bridge.{up, down, diff, up_diff_le, down_diff_le, orders}
use Rattle.whole.proofs.Euclid.{gcd_is, gcd_pos, gcd_coprime}
use Rattle.envelope.specs.declared.Envelope.{Envelope}
use Rattle.envelope.specs.Limits.{upper_least}
use Rattle.envelope.specs.Stream.{Stream, ones, Lies}
use Rattle.envelope.specs.Envelope.{Normal, Limits, Room, Taken, normal_of, not_of, on_of}
use Rattle.envelope.specs.Word.{ones_in, word_bit, smallest, largest, word_offsets, word_of, LegalWord}
use Rattle.envelope.specs.Made.{Fields}
use Rattle.envelope.proofs.Counts.{ones_most, ones_slow, earlier}
use Rattle.envelope.proofs.Streams.{has_lies}
use Rattle.envelope.proofs.Result.{result_l, result_n, result_limits, result_rate_one}
use Rattle.envelope.proofs.Normal.{normal_normal, normal_n_least, normal_n_most, normal_rate_one}
use Rattle.envelope.proofs.Declared.{normal_limits}
use Rattle.envelope.proofs.On.{on_stream, on_keeps}
use Rattle.envelope.proofs.Not.{not_stream, not_keeps}
use Rattle.envelope.proofs.Some.{earliest, earliest_lies, none_lies}
use Rattle.envelope.proofs.Offsets.{In, Between, in_between, offset, in_offsets, from_offsets, small_in, large_in}
use Rattle.envelope.proofs.WordBits.{turn_ones}
use Rattle.envelope.proofs.Word.{word_stream, word_keeps}

-- a normal envelope in which a stream lies has room
pub has_room_lem : (s : Stream) (e : Envelope) → 1 ≤ e.n → Normal e → Lies s e → Room e
has_room_lem s e h m p = go (dec_le (down z + (e.n - 1)) (up z))
  where
    z : ℤ
    z = e.K -ℤ e.k

    below : ¬ (down z + (e.n - 1) ≤ up z) → ¬ Room e
    below f r = omega (arith, orders)

    go : Dec (down z + (e.n - 1) ≤ up z) → Room e
    go (yes q) = omega (arith, orders, q)
    go (no f) = absurd (none_lies s e h m (below f) p)

-- some stream lies in a taken envelope
pub taken_stream : (e : Envelope) → Taken e → (s : Stream) × Lies s e
taken_stream e t =
    let a : pos 0 ≤ℤ e.K = t.limits.K_least in
    (earliest e t.n_least t.n_most a t.room, earliest_lies e t.n_least t.n_most a t.room)

-- ---- declared
pub declared_taken : (k K : ℤ) (l n : ℕ) → Fields k K l n → Room (normal_of k K l n) → Taken (normal_of k K l n)
declared_taken k K l n f r =
    record {
      normal = normal_normal k K l n f.n_least;
      n_least = normal_n_least k K l n f.n_least;
      n_most = normal_n_most k K l n f.n_least f.n_most;
      limits = normal_limits k K l n f;
      room = r;
      at_rate_one = normal_rate_one k K l n;
    }

-- ---- not
module _ (e : Envelope) (t : Taken e) (h : e.n < e.l) where
  not_l : (not_of e).l ≡ e.l
  unfolding not_of
  not_l = result_l _ _ _ _

  not_n : (not_of e).n ≡ e.l - e.n
  unfolding not_of
  not_n = result_n _ _ _ _

  not_normal : Normal (not_of e)
  not_normal =
      let g : ℕ = gcd_of e.l (e.l - e.n) in
      let s : IsGcd e.l (e.l - e.n) g = gcd_is e.l (e.l - e.n) in
      let d : e.l - (e.l - e.n) ≡ e.n = omega arith in
      let q : g ∣ e.n = subst (λ (x : ℕ). g ∣ x) d (dvd-sub g s.left s.right) in
      ap₂ gcd_of not_l not_n ∙ dvd-one.0 (subst (λ (x : ℕ). g ∣ x) t.normal ((gcd_is e.l e.n).most g s.left q))

  not_rate_one : (not_of e).l ≡ 1 → (not_of e).n ≡ 1 → pos 0 ≤ℤ (not_of e).k
  unfolding not_of
  not_rate_one = result_rate_one _ _ _ _

  pub not_taken : Limits (not_of e) → Taken (not_of e)
  not_taken m =
      let a = taken_stream e t in
      let b = not_stream a.0 e h a.1 in
      let least : 1 ≤ (not_of e).n = omega (arith, not_n) in
      record {
        normal = not_normal;
        n_least = least;
        n_most = omega (arith, not_n, not_l);
        limits = m;
        room = has_room_lem b.0 (not_of e) least not_normal (has_lies b.0 _ (not_of e) b.1 (not_keeps a.0 e h a.1));
        at_rate_one = not_rate_one;
      }

-- ---- on
module _ (e f : Envelope) (s : Taken e) (t : Taken f) where
  some_ones : 0 < e.n * f.n
  some_ones = mul-pos s.n_least t.n_least

  pub on_taken : Limits (on_of e f) → Taken (on_of e f)
  unfolding on_of
  on_taken m =
      let a = taken_stream e s in
      let b = taken_stream f t in
      let c = on_stream a.0 b.0 in
      let norm : Normal (on_of e f) = normal_normal _ _ _ _ some_ones in
      let least : 1 ≤ (on_of e f).n = normal_n_least _ _ _ _ some_ones in
      record {
        normal = norm;
        n_least = least;
        n_most = normal_n_most _ _ _ _ some_ones (mul-le-mul s.n_most t.n_most);
        limits = m;
        room = has_room_lem c.0 (on_of e f) least norm (has_lies c.0 _ (on_of e f) c.1 (on_keeps a.0.bit b.0.bit e f some_ones a.1 b.1));
        at_rate_one = normal_rate_one _ _ _ _;
      }

-- ---- words
module _ (u v : List ℕ) (h : LegalWord u v) where
  P : ℕ
  P = length v

  m : ℕ
  m = ones_in v

  g : ℕ
  g = gcd_of P m

  l : ℕ
  l = P / g

  n : ℕ
  n = m / g

  T : ℕ
  T = length u + length v

  b : ℕ → Bool
  b = word_bit u v

  xs : List ℤ
  xs = word_offsets u v l n

  word_l : (word_of u v).l ≡ l
  unfolding word_of P m g l
  word_l = result_l _ _ _ _

  word_n : (word_of u v).n ≡ n
  unfolding word_of P m g n
  word_n = result_n _ _ _ _

  l_back : l * g ≡ P
  unfolding P m g l
  l_back = div-mul_cancel g (gcd_is P m).left

  n_back : n * g ≡ m
  unfolding P m g n
  n_back = div-mul_cancel g (gcd_is P m).right

  n_least : 1 ≤ n
  unfolding m
  n_least = go n n_back
    where
      go : (x : ℕ) → x * g ≡ m → 1 ≤ x
      go zero e = absurd (omega (arith, zero-mul g, h.a_one))
      go (suc x) e = omega arith

  n_most : n ≤ l
  unfolding P m g b
  n_most = le_of_mul-le-mul_right (omega (arith, l_back, n_back, turn_ones u v, ones_slow (word_bit u v) (length u) (length v))) (gcd_pos P m h.a_one)

  l_small : l ≤ 64
  unfolding P l
  l_small = omega (arith, div-le_self P g, h.period_most)

  -- the first 1, whose offset is not below 0
  found : (q : ℕ) × (q < T) × (b q ≡ true) × (ones b q ≡ 0)
  unfolding T b
  found = earlier (word_bit u v) (length u + length v) 0 (omega (arith, turn_ones u v, h.a_one))

  here : In (offset b l n found.0) xs
  unfolding T b xs
  here = in_offsets (word_bit u v) l n (length u + length v) found.0 found.1 found.2

  -- each offset is near 0
  far : (t : ℕ) → t < T → (up (offset b l n t) ≤ 8192) × (down (offset b l n t) ≤ 8192)
  unfolding offset T
  far t p =
      let nt : n ≤ 64 = omega (arith, n_most, l_small) in
      let pt : t ≤ 128 = omega (arith, p, h.prefix_most, h.period_most) in
      let ot : ones b t ≤ 128 = omega (arith, ones_most b t) in
      let q : n * t ≤ 64 * 128 = mul-le-mul nt pt in
      let r : l * ones b t ≤ 64 * 128 = mul-le-mul l_small ot in
      (omega (arith, q, up_diff_le (pos (n * t)) (pos (l * ones b t))), omega (arith, r, down_diff_le (pos (n * t)) (pos (l * ones b t))))

  near : (z : ℤ) → In z xs → (up z ≤ 8192) × (down z ≤ 8192)
  unfolding xs b T
  near z i =
      let r = from_offsets (word_bit u v) l n (length u + length v) z i in
      subst (λ (y : ℤ). (up y ≤ 8192) × (down y ≤ 8192)) (sym r.2) (far r.0 r.1)

  least_upper : upper_least ≤ℤ largest xs
  unfolding offset Between
  least_upper =
      let i : offset b l n found.0 ≤ℤ largest xs = (in_between here).1 in
      omega (arith, orders, i, diff (pos (n * found.0)) (pos (l * ones b found.0)), ap (λ (x : ℕ). l * x) found.3, mul-zero l)

  limits_raw : Limits (record { k = smallest xs; K = largest xs; l = l; n = n })
  limits_raw =
      let s = near (smallest xs) (small_in here) in
      let t = near (largest xs) (large_in here) in
      record {
        l_within = omega (arith, l_small);
        k_least = omega (arith, orders, s);
        k_most = omega (arith, orders, s);
        K_least = least_upper;
        K_most = omega (arith, orders, t);
      }

  word_limits : Limits (word_of u v)
  unfolding word_of P m g l n xs
  word_limits = result_limits _ _ _ _ limits_raw

  word_normal : Normal (word_of u v)
  unfolding P m g l n
  word_normal = ap₂ gcd_of word_l word_n ∙ gcd_coprime P m h.a_one

  word_rate_one : (word_of u v).l ≡ 1 → (word_of u v).n ≡ 1 → pos 0 ≤ℤ (word_of u v).k
  unfolding word_of
  word_rate_one = result_rate_one _ _ _ _

  pub word_taken : Taken (word_of u v)
  word_taken =
      let s = word_stream u v h.a_one in
      let least : 1 ≤ (word_of u v).n = omega (arith, word_n, n_least) in
      record {
        normal = word_normal;
        n_least = least;
        n_most = omega (arith, word_n, word_l, n_most);
        limits = word_limits;
        room = has_room_lem s.0 (word_of u v) least word_normal (has_lies s.0 _ (word_of u v) s.1 (word_keeps u v h.a_one));
        at_rate_one = word_rate_one;
      }
