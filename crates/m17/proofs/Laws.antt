-- Laws of digits and characters, of a text's number and a number's text, and of the address enum.
use Prim.Native.Nat.{ℕ, zero, suc, ◌+◌, ◌-◌, ◌*◌, ◌/◌, ◌%◌, ◌^◌, ◌≤◌, ◌<◌}
use mathlib.Core.Path.{◌≡◌, refl, sym, ◌∙◌}
use mathlib.Core.Bool.{Bool, true, false, ◌&&◌, ◌||◌, cond, false≢true}
use mathlib.Core.List.{List, [], ◌∷◌}
use mathlib.Core.Logic.{◌⊎◌, inl, inr, ⊎_elim}
use native.Mathlib.Omega.{arith}
use native.Mathlib.Numerals.{add-one}
use native.Mathlib.Nat.{pow-suc, le_of_suc-le-suc, not-suc-le-zero, eq-zero-or-pos, pow-le-pow_right}
use lib.ListN.{length, get_or, drop, length-drop}
use lib.Seq.{drop-cons}
use lib.Dec.{T, leb, eqb, eqb→eq, leb→le}
use borrow.Author.Tests.{le-leb, lt-leb, lt-ltb, le-ltb, eq-eqb, ne_eqb, leb-true, leb-false, eqb-true, eqb-false}
use Rattle.m17.specs.declared.Edition.{Edition}
use Rattle.m17.specs.declared.Edition.TheVariants.{Older, Newer}
use Rattle.m17.specs.declared.Address.{Address}
use Rattle.m17.specs.declared.Address.TheVariants.{Callsign, Broadcast}
use Rattle.m17.specs.declared.Decoded.TheVariants as decoded
use Rattle.fields.proofs.TableLaws.{every, below}
use Rattle.m17.specs.Address.{broadcast, hash_sign, last_hash, last_plain, last_of, hash_signs, foreign_place, number_of, decoding, decoded_by, decoded_into, within, digit_of, foreign, char_of, address_of, first_foreign, ends_in_space, encoding, is_callsign, address_ok, text_up_to, address_number, address_for, address_valid}
use Rattle.std.specs.Prelude.{Ok}
use Rattle.format.specs.declared.refusals.Reason.TheVariants as reason
use Rattle.fields.specs.Rule.{Refused}

pub split : (a b : ℕ) → (a ≤ b) ⊎ (b < a)
split a b = go (leb a b) refl
  where
    go : (t : Bool) → leb a b ≡ t → (a ≤ b) ⊎ (b < a)
    go true e = inl (leb-true a b e)
    go false e = inr (leb-false a b e)

-- ---- a number within two others

pub within_in : (low high c : ℕ) → low ≤ c → c ≤ high → within low high c ≡ true
unfolding within
within_in low high c a b = simp (le-leb low c a, le-leb c high b)

pub within-below : (low high c : ℕ) → c < low → within low high c ≡ false
unfolding within
within-below low high c a = simp (lt-leb low c a)

pub within-above : (low high c : ℕ) → high < c → within low high c ≡ false
unfolding within
within-above low high c a = rw (lt-leb c high a) (and-false (leb low c))
  where
    and-false : (b : Bool) → (b && false) ≡ false
    and-false true = refl
    and-false false = refl

-- ---- digits and characters

-- a character that none of the rules names
digit-other : (c : ℕ) → (c ≡ 32 → ⊥) → (c ≡ 45 → ⊥) → (c ≡ 47 → ⊥) → (c ≡ 46 → ⊥) → within 65 90 c ≡ false → within 48 57 c ≡ false
    → digit_of c ≡ 40
unfolding digit_of
digit-other c p q r s a b = simp (ne_eqb c 32 p, a, b, ne_eqb c 45 q, ne_eqb c 47 r, ne_eqb c 46 s)

pub digit-before : (c : ℕ) → c < 32 → digit_of c ≡ 40
digit-before c h =
    digit-other c (omega arith) (omega arith) (omega arith) (omega arith) (within-below 65 90 c (omega arith)) (within-below 48 57 c (omega arith))

pub digit-past : (c : ℕ) → 90 < c → digit_of c ≡ 40
digit-past c h =
    digit-other c (omega arith) (omega arith) (omega arith) (omega arith) (within-above 65 90 c h) (within-above 48 57 c (omega arith))

-- the two ways round, each by a computed test

right-digit : ℕ → Bool
right-digit d = eqb (digit_of (char_of d)) d

pub digit-of-char : (d : ℕ) → d < 40 → digit_of (char_of d) ≡ d
unfolding right-digit every digit_of char_of within
digit-of-char d h = eqb→eq (digit_of (char_of d)) d (below right-digit 40 tt d h)

right-char : ℕ → Bool
right-char c = cond (eqb (digit_of c) 40) true (eqb (char_of (digit_of c)) c)

char-of-low : (c : ℕ) → c < 91 → T (right-char c)
unfolding right-char every digit_of char_of within
char-of-low c h = below right-char 91 tt c h

pub char-of-digit : (c : ℕ) → foreign c ≡ false → char_of (digit_of c) ≡ c
unfolding right-char foreign
char-of-digit c f = ⊎_elim low high (split c 90)
  where
    low : c ≤ 90 → char_of (digit_of c) ≡ c
    low h = eqb→eq (char_of (digit_of c)) c (rw f at (char-of-low c (omega arith)))

    high : 90 < c → char_of (digit_of c) ≡ c
    high h = absurd (eqb-false (digit_of c) 40 f (digit-past c h))

small : ℕ → Bool
small c = leb (digit_of c) 40

digit-small : (c : ℕ) → c < 91 → T (small c)
unfolding small every digit_of within
digit-small c h = below small 91 tt c h

pub digit-le : (c : ℕ) → digit_of c ≤ 40
unfolding small
digit-le c = ⊎_elim (λ h. leb→le (digit_of c) 40 (digit-small c (omega arith))) (λ h. omega (arith, digit-past c h)) (split c 90)

pub digit_lt : (c : ℕ) → foreign c ≡ false → digit_of c < 40
unfolding foreign
digit_lt c f =
    let h : digit_of c ≤ 40 = digit-le c in
    let g : digit_of c ≡ 40 → ⊥ = eqb-false (digit_of c) 40 f in
    omega arith

char-native : (d : ℕ) → d < 40 → foreign (char_of d) ≡ false
unfolding foreign
char-native d h = rw (digit-of-char d h) (ne_eqb d 40 (omega arith))

-- 0 is a space's digit alone
char-solid : (d : ℕ) → 0 < d → d < 40 → eqb (char_of d) 32 ≡ false
char-solid d p h =
    ne_eqb (char_of d) 32
    (λ e.
    let a : digit_of (char_of d) ≡ 0 = rw e (unfold digit_of in refl) in
    let b : digit_of (char_of d) ≡ d = digit-of-char d h in
    omega arith)

digit-solid : (c : ℕ) → foreign c ≡ false → eqb c 32 ≡ false → 0 < digit_of c
digit-solid c f e = ⊎_elim (λ z. absurd (eqb-false c 32 e (sym (char-of-digit c f) ∙ rw z (unfold char_of in refl)))) (λ p. p) (eq-zero-or-pos (digit_of c))

-- ---- texts with no foreign character, `first_foreign s ≡ length s`

native-cons : (c : ℕ) (s : List ℕ) → first_foreign (c ∷ s) ≡ length (c ∷ s) → (foreign c ≡ false) × (first_foreign s ≡ length s)
unfolding first_foreign
native-cons c s e = go (foreign c) e
  where
    go : (b : Bool) → cond b 0 (1 + first_foreign s) ≡ suc (length s) → (b ≡ false) × (first_foreign s ≡ length s)
    go true e = absurd (omega arith)
    go false e = (refl, omega arith)

native-more : (c : ℕ) (s : List ℕ) → foreign c ≡ false → first_foreign s ≡ length s → first_foreign (c ∷ s) ≡ length (c ∷ s)
unfolding first_foreign
native-more c s f e = rw (f, e) (omega arith)

pub foreign-le : (s : List ℕ) → first_foreign s ≤ length s
unfolding first_foreign
foreign-le [] = omega arith
foreign-le (c ∷ s) = go (foreign c) (foreign-le s)
  where
    go : (b : Bool) → first_foreign s ≤ length s → cond b 0 (1 + first_foreign s) ≤ suc (length s)
    go true h = omega arith
    go false h = omega arith

-- ---- the search for a foreign character, from position i

pub foreign-here : (s : List ℕ) (i : ℕ) → i < length s → digit_of (get_or s i 0) ≡ 40 → first_foreign (drop i s) ≡ 0
unfolding first_foreign foreign
foreign-here s i h e = rw (drop-cons s i 0 h, e)

pub foreign_next : (s : List ℕ) (i : ℕ) → i < length s → (digit_of (get_or s i 0) ≡ 40 → ⊥) → first_foreign (drop i s) ≡ 1 + first_foreign (drop (i + 1) s)
unfolding first_foreign foreign
foreign_next s i h e = rw (add-one, drop-cons s i 0 h, ne_eqb (digit_of (get_or s i 0)) 40 e)

-- a foreign character anywhere
pub foreign-at : (s : List ℕ) (i : ℕ) → i < length s → digit_of (get_or s i 0) ≡ 40 → first_foreign s < length s
unfolding first_foreign foreign
foreign-at [] i h e = absurd (not-suc-le-zero h)
foreign-at (c ∷ s) zero h e = rw e (omega arith)
foreign-at (c ∷ s) (suc i) h e = go (eqb (digit_of c) 40) (foreign-at s i (le_of_suc-le-suc h) e)
  where
    go : (b : Bool) → first_foreign s < length s → cond b 0 (1 + first_foreign s) < suc (length s)
    go true l = omega arith
    go false l = omega arith

-- an iteration from the last character down
pub native-step : (s : List ℕ) (i : ℕ) → 0 < i → i ≤ length s → (digit_of (get_or s (i - 1) 0) ≡ 40 → ⊥) → first_foreign (drop i s) ≡ length (drop i s)
    → first_foreign (drop (i - 1) s) ≡ length (drop (i - 1) s)
unfolding foreign
native-step s i p l n e =
    let h : i - 1 < length s = omega arith in
    let k : suc (i - 1) ≡ i = omega arith in
    let d : drop (i - 1) s ≡ get_or s (i - 1) 0 ∷ drop i s = rw k at (drop-cons s (i - 1) 0 h) in
    rw d (native-more (get_or s (i - 1) 0) (drop i s) (ne_eqb (digit_of (get_or s (i - 1) 0)) 40 n) e)

-- ---- a text's number

address-cons : (c : ℕ) (s : List ℕ) → address_of (c ∷ s) ≡ digit_of c + 40 * address_of s
unfolding address_of
address-cons c s = refl

address-lt : (s : List ℕ) → first_foreign s ≡ length s → address_of s < 40 ^ length s
unfolding address_of
address-lt [] e = omega arith
address-lt (c ∷ s) e =
    let d : digit_of c < 40 = digit_lt c (native-cons c s e).0 in
    let h : address_of s < 40 ^ length s = address-lt s (native-cons c s e).1 in
    rw (pow-suc 40 (length s)) (omega arith)

pub address_below : (s : List ℕ) (k : ℕ) → length s ≤ k → first_foreign s ≡ length s → address_of s < 40 ^ k
address_below s k l e =
    let h : address_of s < 40 ^ length s = address-lt s e in
    let m : 40 ^ length s ≤ 40 ^ k = pow-le-pow_right (omega arith) l in
    omega arith

-- what the sum has before its last iteration leaves room for a digit more
pub address_room : (s : List ℕ) (i : ℕ) → length s ≤ 9 → 0 < i → first_foreign (drop i s) ≡ length (drop i s) → address_of (drop i s) < 40 ^ 8
address_room s i n p e = address_below (drop i s) 8 (simp length-drop (omega arith)) e

-- an iteration of the sum, from the last character down
pub address_step : (s : List ℕ) (i : ℕ) → 0 < i → i ≤ length s → address_of (drop (i - 1) s) ≡ address_of (drop i s) * 40 + digit_of (get_or s (i - 1) 0)
address_step s i p l =
    let h : i - 1 < length s = omega arith in
    let e : suc (i - 1) ≡ i = omega arith in
    rw (drop-cons s (i - 1) 0 h, e) (unfold address_of in omega arith)

-- ---- the text's last character

pub ends-tail : (c : ℕ) (s : List ℕ) → ends_in_space (c ∷ s) ≡ false → ends_in_space s ≡ false
unfolding ends_in_space
ends-tail c [] e = refl
ends-tail c (d ∷ s) e = e

pub ends-cons : (c : ℕ) (s : List ℕ) → (s ≡ [] → eqb c 32 ≡ false) → ends_in_space s ≡ false → ends_in_space (c ∷ s) ≡ false
unfolding ends_in_space
ends-cons c [] f e = f refl
ends-cons c (d ∷ s) f e = e

-- of a text that is not empty
pub ends_last : (s : List ℕ) (i : ℕ) → length s ≡ suc i → ends_in_space s ≡ eqb (get_or s i 0) 32
unfolding ends_in_space
ends_last [] i e = absurd (omega arith)
ends_last (c ∷ []) zero e = refl
ends_last (c ∷ []) (suc i) e = absurd (omega arith)
ends_last (c ∷ (d ∷ s)) zero e = absurd (omega arith)
ends_last (c ∷ (d ∷ s)) (suc i) e = ends_last (d ∷ s) i (omega arith)

pub address-pos : (s : List ℕ) → 0 < length s → first_foreign s ≡ length s → ends_in_space s ≡ false → 0 < address_of s
unfolding address_of
address-pos [] p e t = absurd (omega arith)
address-pos (c ∷ []) p e t = omega (arith, digit-solid c (native-cons c [] e).0 (unfold ends_in_space in t))
address-pos (c ∷ (d ∷ s)) p e t =
    let h : 0 < address_of (d ∷ s) = address-pos (d ∷ s) (omega arith) (native-cons c (d ∷ s) e).1 (ends-tail c (d ∷ s) t) in
    omega arith

-- ---- a text from its number

pub text-zero : (k : ℕ) → text_up_to k 0 ≡ []
unfolding text_up_to
text-zero zero = refl
text-zero (suc k) = refl

text-cons : (k n : ℕ) → 0 < n → text_up_to (suc k) n ≡ char_of (n % 40) ∷ text_up_to k (n / 40)
unfolding text_up_to
text-cons k n p = rw (ne_eqb n 0 (omega arith))

pub text-of-address : (k : ℕ) (s : List ℕ) → length s ≤ k → first_foreign s ≡ length s → ends_in_space s ≡ false → text_up_to k (address_of s) ≡ s
text-of-address k [] l e t = unfold address_of in text-zero k
text-of-address zero (c ∷ s) l e t = absurd (omega arith)
text-of-address (suc k) (c ∷ s) l e t =
    let n : ℕ = address_of (c ∷ s) in
    let p : 0 < address_of (c ∷ s) = address-pos (c ∷ s) (omega arith) e t in
    let f : foreign c ≡ false = (native-cons c s e).0 in
    let d : digit_of c < 40 = digit_lt c f in
    let a : address_of (c ∷ s) ≡ digit_of c + 40 * address_of s = (unfold address_of in refl) in
    let r : address_of (c ∷ s) % 40 ≡ digit_of c = omega arith in
    let q : address_of (c ∷ s) / 40 ≡ address_of s = omega arith in
    rw (text-cons k (address_of (c ∷ s)) p, r, q, char-of-digit c f, text-of-address k s (omega arith) (native-cons c s e).1 (ends-tail c s t))

-- ---- a number from its text

-- where the text goes on and where it ends
by-text : (P : List ℕ → Type 0) (k n : ℕ) → (n ≡ 0 → P []) → (0 < n → P (char_of (n % 40) ∷ text_up_to k (n / 40))) → P (text_up_to (suc k) n)
by-text P k n z s = ⊎_elim (λ e. let q : text_up_to (suc k) n ≡ [] = rw e (text-zero (suc k)) in rw q (z e)) (λ p. rw (text-cons k n p) (s p)) (eq-zero-or-pos n)

div-lt : (k n : ℕ) → n < 40 ^ suc k → n / 40 < 40 ^ k
div-lt k n h =
    let e : 40 ^ suc k ≡ 40 ^ k * 40 = pow-suc 40 k in
    omega arith

mod-lt-40 : (n : ℕ) → n % 40 < 40
mod-lt-40 n = omega arith

pub address-of-text : (k n : ℕ) → n < 40 ^ k → address_of (text_up_to k n) ≡ n
address-of-text zero n h = unfold text_up_to address_of in omega arith
address-of-text (suc k) n h =
    by-text (λ t. address_of t ≡ n) k n
    (λ e. unfold address_of in sym e)
    (λ p.
    let d : digit_of (char_of (n % 40)) ≡ n % 40 = digit-of-char (n % 40) (mod-lt-40 n) in
    let i : address_of (text_up_to k (n / 40)) ≡ n / 40 = address-of-text k (n / 40) (div-lt k n h) in
    rw (address-cons, d, i) (omega arith))

pub native-text : (k n : ℕ) → first_foreign (text_up_to k n) ≡ length (text_up_to k n)
native-text zero n = unfold text_up_to first_foreign in refl
native-text (suc k) n =
    by-text (λ t. first_foreign t ≡ length t) k n
    (λ e. unfold first_foreign in refl)
    (λ p. native-more (char_of (n % 40)) (text_up_to k (n / 40)) (char-native (n % 40) (mod-lt-40 n)) (native-text k (n / 40)))

pub text-length : (k n : ℕ) → length (text_up_to k n) ≤ k
text-length zero n = unfold text_up_to in omega arith
text-length (suc k) n =
    by-text (λ t. length t ≤ suc k) k n
    (λ e. omega arith)
    (λ p.
    let i : length (text_up_to k (n / 40)) ≤ k = text-length k (n / 40) in
    omega arith)

pub text-some : (k n : ℕ) → 0 < n → 0 < length (text_up_to (suc k) n)
text-some k n p = rw (text-cons k n p) (omega arith)

pub ends-text : (k n : ℕ) → n < 40 ^ k → ends_in_space (text_up_to k n) ≡ false
ends-text zero n h = unfold text_up_to ends_in_space in refl
ends-text (suc k) n h =
    by-text (λ t. ends_in_space t ≡ false) k n
    (λ e. unfold ends_in_space in refl)
    (λ p.
    ends-cons (char_of (n % 40)) (text_up_to k (n / 40))
    (λ e.
    let a : address_of (text_up_to k (n / 40)) ≡ n / 40 = address-of-text k (n / 40) (div-lt k n h) in
    let z : address_of (text_up_to k (n / 40)) ≡ 0 = rw e (unfold address_of in refl) in
    char-solid (n % 40) (omega arith) (mod-lt-40 n))
    (ends-text k (n / 40) (div-lt k n h)))

-- ---- the hash sign that begins a text

-- a text that begins with one, by the newer edition
pub record HashText (e : Edition) (s : List ℕ) : Type 0 where
  pub rest : List ℕ
  pub begins : s ≡ hash_sign ∷ rest
  pub one : hash_signs e s ≡ 1
  pub newer : e ≡ Newer

pub signs-or-none : (e : Edition) (s : List ℕ) → (hash_signs e s ≡ 0) ⊎ HashText e s
unfolding hash_signs
signs-or-none Older s = inl refl
signs-or-none Newer [] = inl refl
signs-or-none Newer (c ∷ s) = by (eqb c hash_sign) refl
  where
    by : (b : Bool) → eqb c hash_sign ≡ b → (hash_signs Newer (c ∷ s) ≡ 0) ⊎ HashText Newer (c ∷ s)
    by true t = inr (record { rest = s; begins = rw (eqb-true c hash_sign t); one = rw t; newer = refl })
    by false t = inl (rw t)

-- the hash sign has no digit, so a text with no foreign character does not begin with one
pub native-signs : (e : Edition) (s : List ℕ) → first_foreign s ≡ length s → hash_signs e s ≡ 0
native-signs e s f = ⊎_elim (λ z. z) (λ h. absurd (no h.rest (rw h.begins at f))) (signs-or-none e s)
  where
    no : (t : List ℕ) → first_foreign (hash_sign ∷ t) ≡ length (hash_sign ∷ t) → ⊥
    no t g = let z : first_foreign (hash_sign ∷ t) ≡ 0 = (unfold first_foreign foreign digit_of within in refl) in omega arith

-- ---- the answers to a text, by what holds of it

pub encoding-length : (e : Edition) (s : List ℕ) → within 1 9 (length s) ≡ false → encoding e s ≡ Refused reason.CallsignLength 0
unfolding encoding
encoding-length e s l = rw l

module _ (e : Edition) (s : List ℕ) (some : 0 < length s) (few : length s ≤ 9) where
  pub encoding-foreign : foreign_place e s < length s → encoding e s ≡ Refused reason.CallsignForeign (foreign_place e s)
  unfolding encoding
  encoding-foreign f = rw (within_in 1 9 (length s) some few, lt-ltb (foreign_place e s) (length s) f)

  pub encoding-space : length s ≤ foreign_place e s → get_or s (length s - 1) 0 ≡ 32 → encoding e s ≡ Refused reason.CallsignSpace 0
  unfolding encoding
  encoding-space f g =
      rw (
        within_in 1 9 (length s) some few,
        le-ltb (foreign_place e s) (length s) f,
        ends_last s (length s - 1) (omega arith),
        eq-eqb (get_or s (length s - 1) 0) 32 g,
      )

  pub encoding-solid : length s ≤ foreign_place e s → ends_in_space s ≡ false → encoding e s ≡ Ok (number_of e s)
  unfolding encoding
  encoding-solid f g = rw (within_in 1 9 (length s) some few, le-ltb (foreign_place e s) (length s) f, g)

  pub encoding-number : length s ≤ foreign_place e s → (get_or s (length s - 1) 0 ≡ 32 → ⊥) → encoding e s ≡ Ok (number_of e s)
  encoding-number f g = encoding-solid f (ends_last s (length s - 1) (omega arith) ∙ ne_eqb (get_or s (length s - 1) 0) 32 g)

-- ---- the answers to a number, by what holds of it

pub and-true : (a b : Bool) → (a && b) ≡ true → (a ≡ true) × (b ≡ true)
and-true true b e = (refl, e)
and-true false b e = absurd (false≢true e)

pub last-le : (e : Edition) → last_of e ≤ last_hash
last-le Older = omega arith
last-le Newer = omega arith

pub last-ge : (e : Edition) → last_plain ≤ last_of e
last-ge Older = omega arith
last-ge Newer = omega arith

pub callsign-bounds : (e : Edition) (n : ℕ) → is_callsign e n ≡ true → (0 < n) × (n ≤ last_of e)
unfolding is_callsign within
callsign-bounds e n t =
    let b : (leb 1 n ≡ true) × (leb n (last_of e) ≡ true) = and-true (leb 1 n) (leb n (last_of e)) t in
    (leb-true 1 n b.0, leb-true n (last_of e) b.1)

pub callsign-range : (e : Edition) (n : ℕ) → is_callsign e n ≡ true → (0 < n) × (n ≤ last_hash)
callsign-range e n t = let b : (0 < n) × (n ≤ last_of e) = callsign-bounds e n t in (b.0, omega (arith, last-le e))

pub decoding-short : (e : Edition) (out : List ℕ) (n : ℕ) → length out < 9 → (Refused reason.CallsignBuffer 0 ≡ decoding e (length out) n) × (out ≡ decoded_into e out n)
unfolding decoding decoded_into decoded_by
decoding-short e out n h = simp (lt-ltb (length out) 9 h) (refl, refl)

module _ (e : Edition) (out : List ℕ) (n : ℕ) (room : 9 ≤ length out) where
  pub decoding-broadcast : is_callsign e n ≡ false → n ≡ broadcast → ((Ok decoded.Broadcast) ≡ decoding e (length out) n) × (out ≡ decoded_into e out n)
  unfolding decoding decoded_into decoded_by
  decoding-broadcast t b = rw (le-ltb (length out) 9 room, t, eq-eqb n broadcast b) (refl, refl)

  pub decoding-invalid : is_callsign e n ≡ false → (n ≡ broadcast → ⊥) → (Refused reason.AddressNumber 0 ≡ decoding e (length out) n) × (out ≡ decoded_into e out n)
  unfolding decoding decoded_into decoded_by
  decoding-invalid t b = rw (le-ltb (length out) 9 room, t, ne_eqb n broadcast b) (refl, refl)

-- ---- the address enum

pub address_number-for : (n : ℕ) → address_number (address_for n) ≡ n
unfolding address_for address_number
address_number-for n = go (eqb n broadcast) refl
  where
    go : (b : Bool) → eqb n broadcast ≡ b → address_number (cond b Broadcast (Callsign n)) ≡ n
    go true e = sym (eqb-true n broadcast e)
    go false e = refl

callsign-not-broadcast : (e : Edition) (n : ℕ) → is_callsign e n ≡ true → eqb n broadcast ≡ false
callsign-not-broadcast e n c = let r : (0 < n) × (n ≤ last_hash) = callsign-range e n c in ne_eqb n broadcast (omega arith)

pub broadcast-no-callsign : (e : Edition) (n : ℕ) → n ≡ broadcast → is_callsign e n ≡ false
unfolding is_callsign
broadcast-no-callsign e n b = within-above 1 (last_of e) n (omega (arith, last-le e))

pub address_for-number : (e : Edition) (a : Address) → address_valid e a ≡ true → address_for (address_number a) ≡ a
unfolding address_for address_number address_valid
address_for-number e (Callsign n) g = rw (callsign-not-broadcast e n g)
address_for-number e Broadcast g = refl

pub address_valid-for : (e : Edition) (n : ℕ) → address_ok e n ≡ true → address_valid e (address_for n) ≡ true
unfolding address_ok address_for address_valid
address_valid-for e n k = go (eqb n broadcast) k
  where
    or-false : (b : Bool) → (b || false) ≡ true → b ≡ true
    or-false true e = refl
    or-false false e = e

    go : (b : Bool) → (is_callsign e n || b) ≡ true → address_valid e (cond b Broadcast (Callsign n)) ≡ true
    go true t = refl
    go false t = or-false (is_callsign e n) t

pub address_ok-number : (e : Edition) (a : Address) → address_valid e a ≡ true → address_ok e (address_number a) ≡ true
unfolding address_ok address_number address_valid
address_ok-number e (Callsign n) g = rw g
address_ok-number e Broadcast g = or-true (is_callsign e broadcast)
  where
    or-true : (b : Bool) → (b || true) ≡ true
    or-true true = refl
    or-true false = refl

-- an address's number fits its six bytes
pub address_number-lt : (e : Edition) (a : Address) → address_valid e a ≡ true → address_number a < 2 ^ 48
unfolding address_number address_valid
address_number-lt e (Callsign n) g = let r : (0 < n) × (n ≤ last_hash) = callsign-range e n g in omega arith
address_number-lt e Broadcast g = omega arith

pub address_ok-lt : (e : Edition) (n : ℕ) → address_ok e n ≡ true → n < 2 ^ 48
address_ok-lt e n k = rw address_number-for at (address_number-lt e (address_for n) (address_valid-for e n k))
