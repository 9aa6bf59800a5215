-- The search for the longest front of a name among limits.
use Rattle.std.proofs.Common.{◌≡◌, ℕ, ◌<◌, ◌≤◌, Bool, true, false, cond, List, [], ◌∷◌, ◌++◌, map, length, Option, Some, None, refl, sym, ap, ◌∙◌, subst, arith}
use Rattle.std.specs.Prelude.{All, IsTrue, String, string_bytes}
use Rattle.std.proofs.lemmas.Bool.{false≢true}
use Rattle.std.specs.Option.{option_map}
use Rattle.std.specs.String.{string_cmp}
use Rattle.std.specs.BTreeMap.{is_at}
use Rattle.std.specs.Str.{bytes_eq}
use Rattle.std.specs.Map.{lookup}
use Rattle.std.proofs.lemmas.List.{map-append}
use Rattle.std.proofs.lemmas.List.Elements.{All-push}
use Rattle.std.proofs.lemmas.Iterator.Adapters.{option_map_id}
use Rattle.std.proofs.lemmas.Map.Text.{is_eq-slice_cmp}
use Rattle.rkt_data.specs.declared.data_stream.ByteUnit.{ByteUnit}
use Rattle.rkt_config.specs.Limits.{IsFront, IsLimitOf}
use Rattle.rkt_config.proofs.Entries.{lookup-seen}

-- the longest front among the entries seen, by its length and its limit
pub record IsLongest (all seen : List (List ℕ × ByteUnit)) (name : List ℕ) (best : ℕ × ByteUnit) : Type 0 where
  pub front : List ℕ
  pub measured : length front ≡ best.0
  pub is_front : IsFront front name
  pub kept : lookup (bytes_eq front) all ≡ Some best.1
  pub longest : All (λ entry. IsFront entry.0 name → length entry.0 ≤ best.0) seen

abbrev pub IsBest : List (List ℕ × ByteUnit) → List (List ℕ × ByteUnit) → List ℕ → Option (ℕ × ByteUnit) → Type 0
IsBest all seen name None = All (λ entry. ¬ IsFront entry.0 name) seen
IsBest all seen name (Some best) = IsLongest all seen name best

module _ {A : Type 0} (shows : A → List ℕ × ByteUnit) (all : List (List ℕ × ByteUnit)) (seen : List A) (name : List ℕ) (item : A) where
  abbrev IsWithin : ℕ → List ℕ × ByteUnit → Type 0
  IsWithin most e = IsFront e.0 name → length e.0 ≤ most

  one_more : (P : List ℕ × ByteUnit → Type 0) → All P (map shows seen) → P (shows item) → All P (map shows (seen ++ item ∷ []))
  one_more P was here = rw map-append (All-push P (map shows seen) (shows item) was here)

  no_longer : (best : ℕ × ByteUnit) → (IsFront (shows item).0 name → length (shows item).0 ≤ best.0) → IsLongest all (map shows seen) name best → IsLongest all (map shows (seen ++ item ∷ [])) name best
  no_longer best within was =
      record {
        front = was.front;
        measured = was.measured;
        is_front = was.is_front;
        kept = was.kept;
        longest = one_more (IsWithin best.0) was.longest within;
      }

  -- an entry that is no front changes nothing
  pub best_past : (best : Option (ℕ × ByteUnit)) → ¬ IsFront (shows item).0 name → IsBest all (map shows seen) name best → IsBest all (map shows (seen ++ item ∷ [])) name best
  best_past None other was = one_more (λ e. ¬ IsFront e.0 name) was other
  best_past (Some best) other was = no_longer best (λ is. absurd (other is)) was

  -- nor does one that is no longer
  pub best_stays : (best : Option (ℕ × ByteUnit)) (longest : ℕ × ByteUnit) → best ≡ Some longest → length (shows item).0 ≤ longest.0 → IsBest all (map shows seen) name best → IsBest all (map shows (seen ++ item ∷ [])) name best
  best_stays best longest is short was =
      let P : Option (ℕ × ByteUnit) → Type 0 = λ o. IsBest all (map shows (seen ++ item ∷ [])) name o in
      let Q : Option (ℕ × ByteUnit) → Type 0 = λ o. IsBest all (map shows seen) name o in
      subst P (sym is) (no_longer longest (λ _. short) (subst Q is was))

  longer : (best : Option (ℕ × ByteUnit)) → ((longest : ℕ × ByteUnit) → best ≡ Some longest → longest.0 < length (shows item).0) → IsBest all (map shows seen) name best → All (IsWithin (length (shows item).0)) (map shows seen)
  longer None above was = λ k d h is. absurd (was k d h is)
  longer (Some best) above was = λ k d h is. omega (arith, was.longest k d h is, above best refl)

  -- a longer front takes its place
  pub best_taken : (best : Option (ℕ × ByteUnit)) (size : ℕ) → size ≡ length (shows item).0 → ((longest : ℕ × ByteUnit) → best ≡ Some longest → longest.0 < size) → IsFront (shows item).0 name → lookup (bytes_eq (shows item).0) all ≡ Some (shows item).1 → IsBest all (map shows seen) name best → IsLongest all (map shows (seen ++ item ∷ [])) name (size, (shows item).1)
  best_taken best size is_size above is kept was =
      record {
        front = (shows item).0;
        measured = sym is_size;
        is_front = is;
        kept = kept;
        longest = rw is_size (one_more (IsWithin (length (shows item).0)) (longer best (rw is_size at above) was) (λ _. omega arith));
      }

lookup_by : {K X : Type 0} (t u : K → Bool) → ((k : K) → t k ≡ u k) → (es : List (K × X)) → lookup t es ≡ lookup u es
lookup_by t u same [] = refl
lookup_by t u same (e ∷ es) = ap (λ b. cond b (Some e.1) (lookup t es)) (same e.0) ∙ ap (λ rest. cond (u e.0) (Some e.1) rest) (lookup_by t u same es)

-- what a map keeps under a text, looked up by its bytes among the entries that contracts see
pub kept_by_bytes : {Z X : Type 0} (entries : List (String Z × X)) (k : String Z) (v : X) → lookup (is_at (string_cmp k)) entries ≡ Some v → lookup (bytes_eq (string_bytes k)) (map (λ e. (string_bytes e.0, e.1)) entries) ≡ Some v
kept_by_bytes entries k v e =
    lookup-seen string_bytes (λ x. x) (bytes_eq (string_bytes k)) entries ∙ option_map_id _ ∙ sym (lookup_by (is_at (string_cmp k)) (λ q. bytes_eq (string_bytes k) (string_bytes q)) (λ q. is_eq-slice_cmp (string_bytes k) (string_bytes q)) entries) ∙ e

-- when all are seen, the best is the limit
pub limit_of_best : (all seen : List (List ℕ × ByteUnit)) (name : List ℕ) (best : Option (ℕ × ByteUnit)) (found : Option ByteUnit) → found ≡ option_map (λ b. b.1) best → seen ≡ all → IsBest all seen name best → IsLimitOf all name found
limit_of_best all seen name None found is whole was = rw (is, ← whole) was
limit_of_best all seen name (Some best) found is whole was =
    rw is (record { front = was.front; is_front = was.is_front; kept = was.kept; longest = rw (was.measured, ← whole) was.longest })

-- a text that is no front, by what was answered of its copy
pub is_no_front : (text front name : List ℕ) → text ≡ front → (IsTrue false → IsFront text name) × (IsFront text name → IsTrue false) → ¬ IsFront front name
is_no_front text front name same answer is = absurd (false≢true (answer.1 (rw same is)))

pub is_a_front : (text front name : List ℕ) → text ≡ front → (IsTrue true → IsFront text name) × (IsFront text name → IsTrue true) → IsFront front name
is_a_front text front name same answer = rw same at (answer.0 refl)

-- the one value of an option is below a bound
pub is_above : (best : Option (ℕ × ByteUnit)) (longest known : ℕ × ByteUnit) (size : ℕ) → best ≡ Some longest → best ≡ Some known → known.0 < size → longest.0 < size
is_above best longest known size is was h =
    let same : longest ≡ known = cc in
    omega (arith, ap (λ (b : ℕ × ByteUnit). b.0) same)
