-- The fields of a record, and that what `decode` returns is decided by its bytes.
use Rattle.std.proofs.Common.{◌≡◌, ℕ, ◌+◌, ◌-◌, ◌≤◌, List, [], ◌∷◌, ◌++◌, length, drop, replicate, refl, sym, ap, ◌∙◌, arith, length-append, length-drop, length-take-le, take-append-drop, take_at, ◌↔◌, take, Result, Ok, Err, subst}
use Rattle.std.specs.Prelude.{slice_set, suc}
use Rattle.std.specs.List.{All}
use Rattle.std.specs.Result.{IfOk, IsOkAnd, IsErrAnd}
use Rattle.std.proofs.lemmas.List.{drop_at, drop-drop, drop-replicate, length-replicate}
use Rattle.std.proofs.lemmas.List.Elements.{All-head, All-tail, All-replicate}
use borrow.Rule.Slice.PartMut.{put_mid}
use Rattle.arraystring.specs.Text.{size, bytes, IsText, IsWellFormed}
use Rattle.arraystring.proofs.TextLaws.{size-is, bytes_same}
use Rattle.bounded_records.specs.RecordBytes.{field_of, count, counted_bytes, uncounted_bytes, IsRecord, username_field, role_field, HasRecordSize, CountsFit, AreWellFormed, ArePadded, IsFirstFault}
use Rattle.bounded_records.specs.declared.user.User.{User}
use Rattle.bounded_records.specs.declared.record.RecordFault.{RecordFault}
use Rattle.bounded_records.specs.declared.record.RecordFault.TheVariants.{Length, Count, Utf8, Padding}
use Rattle.bounded_records.specs.UserTexts.{texts}

-- a text written over zero bytes
pub written : (room n k : ℕ) (t new field : List ℕ) → field ≡ replicate (suc room) 0 → n ≡ size t → k ≡ size t → new ≡ bytes t
    → put_mid 1 k (slice_set field 0 n) new ≡ field_of room t
written room n k t new field zero long end same =
    rw (zero, long, end, same) (ap (λ z. size t ∷ (bytes t ++ z)) (drop-replicate (size t) room 0))

-- bytes that are zero
zeros : (l : List ℕ) → All (λ b. b ≡ 0) l → l ≡ replicate (length l) 0
zeros [] is = refl
zeros (b ∷ l) is = let tail = zeros l (All-tail (λ b. b ≡ 0) b l is) in let head = All-head (λ b. b ≡ 0) b l is in cc

-- what stands in the field of a text
module _ (room : ℕ) (t : List ℕ) (fits : size t ≤ room) where
  pub length-field : length (field_of room t) ≡ 1 + room
  length-field = omega (arith, size-is t, length-append (bytes t) (replicate (room - size t) 0), length-replicate {A = ℕ} (room - size t) 0)

  pub counted_bytes-field : counted_bytes (field_of room t) ≡ bytes t
  counted_bytes-field = take_at (bytes t) (replicate (room - size t) 0) (size t) (sym (size-is t))

  pub uncounted_bytes-field : All (λ b. b ≡ 0) (uncounted_bytes (field_of room t))
  uncounted_bytes-field =
      rw (← drop-drop (size t) 1 (field_of room t), drop_at (bytes t) (replicate (room - size t) 0) (size t) (sym (size-is t)))
      (All-replicate (λ b. b ≡ 0) _ 0 refl)

-- a field whose tests pass is that of its text
pub field-is : (room : ℕ) (field t : List ℕ) → length field ≡ 1 + room → count field ≤ room → bytes t ≡ counted_bytes field
    → All (λ b. b ≡ 0) (uncounted_bytes field) → field ≡ field_of room t
field-is room [] t long fits same zero = absurd (omega arith)
field-is room (n ∷ rest) t long fits same zero =
    let within : n ≤ length rest = omega arith in
    let size_is : size t ≡ n = size-is t ∙ ap length same ∙ length-take-le n rest within in
    let left : length (drop n rest) ≡ room - n = omega (arith, length-drop n rest) in
    let padded : drop n rest ≡ replicate (room - n) 0 = zeros (drop n rest) (rw (← drop-drop n 1 (n ∷ rest)) at zero) ∙ ap (λ k. replicate k 0) left in
    rw (size_is, same) (cc (take-append-drop n rest))

-- a record passes all tests, and has the bytes of its texts
module _ (bs username role : List ℕ) (is : IsRecord bs username role) where
  first : username_field bs ≡ field_of 20 username
  first = ap (take 21) is.same ∙ take_at (field_of 20 username) (field_of 5 role) 21 (length-field 20 username is.username_fits)

  second : role_field bs ≡ field_of 5 role
  second = ap (drop 21) is.same ∙ drop_at (field_of 20 username) (field_of 5 role) 21 (length-field 20 username is.username_fits)

  has_record_size : HasRecordSize bs
  has_record_size =
      ap length is.same ∙ length-append (field_of 20 username) (field_of 5 role)
      ∙ omega (arith, length-field 20 username is.username_fits, length-field 5 role is.role_fits)

  counts_fit : CountsFit bs
  counts_fit = rw (first, second) (is.username_fits, is.role_fits)

  username_bytes : counted_bytes (username_field bs) ≡ bytes username
  username_bytes = ap counted_bytes first ∙ counted_bytes-field 20 username is.username_fits

  role_bytes : counted_bytes (role_field bs) ≡ bytes role
  role_bytes = ap counted_bytes second ∙ counted_bytes-field 5 role is.role_fits

  are_well_formed : AreWellFormed bs
  are_well_formed = ((username, (is.username_text, sym username_bytes)), (role, (is.role_text, sym role_bytes)))

  are_padded : ArePadded bs
  are_padded = rw (first, second) (uncounted_bytes-field 20 username is.username_fits, uncounted_bytes-field 5 role is.role_fits)

  no_fault : (fault : RecordFault) → IsFirstFault bs fault → ⊥
  no_fault Length f = f has_record_size
  no_fault Count f = f.1 counts_fit
  no_fault Utf8 f = f.2 are_well_formed
  no_fault Padding f = f.3 are_padded

-- one test is the first that fails
one_fault : (bs : List ℕ) (e f : RecordFault) → IsFirstFault bs e → IsFirstFault bs f → e ≡ f
one_fault bs Length Length a b = refl
one_fault bs Length other a b = absurd (a b.0)
one_fault bs other Length a b = absurd (b a.0)
one_fault bs Count Count a b = refl
one_fault bs Count other a b = absurd (a.1 b.1)
one_fault bs other Count a b = absurd (b.1 a.1)
one_fault bs Utf8 Utf8 a b = refl
one_fault bs Utf8 Padding a b = absurd (a.2 b.2)
one_fault bs Padding Utf8 a b = absurd (b.2 a.2)
one_fault bs Padding Padding a b = refl

-- bytes are the record of one user
pub one_user : (bs u r v s : List ℕ) → IsRecord bs u r → IsRecord bs v s → (u ≡ v) × (r ≡ s)
one_user bs u r v s is other = (
  bytes_same {a = u} {b = v} (sym (username_bytes bs u r is) ∙ username_bytes bs v s other),
  bytes_same {a = r} {b = s} (sym (role_bytes bs u r is) ∙ role_bytes bs v s other),
)

-- what `decode` says of its result
abbrev IsDecoded : List ℕ → Result User RecordFault → Type 0
IsDecoded bs result = record {
  user : (username role : List ℕ) → IsOkAnd result (λ user. texts user ≡ (username, role)) ↔ IsRecord bs username role;
  own : IfOk result (λ user. IsRecord bs user.username.text user.role.text);
  only : (u r v s : List ℕ) → IsRecord bs u r → IsRecord bs v s → (u ≡ v) × (r ≡ s);
  fault : (fault : RecordFault) → IsErrAnd result (λ e. e ≡ fault) ↔ IsFirstFault bs fault;
}

pub refused : (bs : List ℕ) (fault : RecordFault) → IsFirstFault bs fault → IsDecoded bs (Err fault)
refused bs fault is = record {
  user = λ u r. (λ none. absurd none, λ record_is. absurd (no_fault bs u r record_is fault is));
  own = tt;
  only = one_user bs;
  fault = λ other. (λ same. subst (IsFirstFault bs) same is, λ first_is. one_fault bs fault other is first_is);
}

accept : (bs : List ℕ) (user : User) → IsRecord bs user.username.text user.role.text → IsDecoded bs (Ok user)
accept bs user is =
    let u = user.username.text in
    let r = user.role.text in record {
      user = λ v s. (
        λ same. subst (λ p. IsRecord bs p.0 p.1) same is,
        λ other. let both = one_user bs u r v s is other in λ i. (both.0 i, both.1 i),
      );
      own = is;
      only = one_user bs;
      fault = λ fault. (λ none. absurd none, λ first_is. absurd (no_fault bs u r is fault first_is));
    }

-- what the tests of the two fields decide
module _ (bs u r : List ℕ) (long : HasRecordSize bs) (cut_at : u ≡ username_field bs) (rest : r ≡ role_field bs) where
  pub refused_count : ¬ ((count u ≤ 20) × (count r ≤ 5)) → IsDecoded bs (Err Count)
  refused_count fails = refused bs Count (long, λ fit. fails (rw (cut_at, rest) fit))

  module _ (fits : (count u ≤ 20) × (count r ≤ 5)) where
    pub refused_text : ¬ (IsWellFormed (counted_bytes u) × IsWellFormed (counted_bytes r)) → IsDecoded bs (Err Utf8)
    refused_text fails = refused bs Utf8 (long, rw (cut_at, rest) at fits, λ well. fails (rw (cut_at, rest) well))

    module _ (user : User) (name : IsText user.username.text × (bytes user.username.text ≡ counted_bytes u))
        (role : IsText user.role.text × (bytes user.role.text ≡ counted_bytes r)) where
      pub refused_padding : ¬ (All (λ b. b ≡ 0) (uncounted_bytes u) × All (λ b. b ≡ 0) (uncounted_bytes r)) → IsDecoded bs (Err Padding)
      refused_padding fails =
          let well : IsWellFormed (counted_bytes u) × IsWellFormed (counted_bytes r) = ((user.username.text, name), (user.role.text, role)) in
          refused bs Padding (long, rw (cut_at, rest) at fits, rw (cut_at, rest) at well, λ padded. fails (rw (cut_at, rest) padded))

      pub accepted : All (λ b. b ≡ 0) (uncounted_bytes u) → All (λ b. b ≡ 0) (uncounted_bytes r) → IsDecoded bs (Ok user)
      accepted zero_u zero_r =
          let long_u : length u ≡ 21 = ap length cut_at ∙ length-take-le 21 bs (omega arith) in
          let long_r : length r ≡ 6 = ap length rest ∙ omega (arith, length-drop 21 bs) in
          let is_u = field-is 20 u user.username.text long_u fits.0 name.1 zero_u in
          let is_r = field-is 5 r user.role.text long_r fits.1 role.1 zero_r in
          accept bs user record {
            username_text = name.0;
            role_text = role.0;
            username_fits = omega (arith, ap count is_u);
            role_fits = omega (arith, ap count is_r);
            same = sym (take-append-drop 21 bs) ∙ rw (← cut_at, ← rest, is_u, is_r) refl;
          }
