-- Contracts see a user by the texts of its username and its role.
use Rattle.std.specs.Prelude.{◌≡◌, ℕ, List, map, IfSome}
use Rattle.std.specs.Ordering.{nat_cmp}
use Rattle.std.specs.Cmp.Lexicographic.{slice_cmp}
use Rattle.std.specs.FinMap as finite
use Rattle.arraystring.specs.Stored.{StringView}
use Rattle.bounded_records.specs.declared.user.User.{User}

-- the texts of a user's username and role
abbrev pub texts : User → List ℕ × List ℕ
texts user = (user.username.text, user.role.text)

-- the usernames of users, which are given by their two texts
abbrev pub names_of : List (List ℕ × List ℕ) → List (List ℕ)
names_of users = map (λ user. user.0) users

-- the entries of a map from strings to users, with texts in place of strings and users, as contracts see a `Directory`
abbrev pub entry_texts : List (StringView × User) → List (List ℕ × (List ℕ × List ℕ))
entry_texts entries = map (λ e. (e.0.text, texts e.1)) entries

-- in the map each user is found under its own username
abbrev pub AreUnderTheirNames : finite.FinMap (slice_cmp nat_cmp) (List ℕ × List ℕ) → Type 0
AreUnderTheirNames users = (name : List ℕ) → IfSome (finite.get users name) (λ user. user.0 ≡ name)
