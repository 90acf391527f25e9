-- Lists whose items are related one by one, lists that are looked through, and how many hosts there are.
use Rattle.std.proofs.Common.{◌≡◌, ℕ, zero, suc, ◌+◌, ◌<◌, Option, Some, None}
use Rattle.std.proofs.Common.{List, [], ◌∷◌, ◌++◌, length, map, take, get_or, slice_get}
use Rattle.std.proofs.Common.{refl, ap, sym, ◌∙◌, subst, arith, add-one}
use Rattle.std.specs.List.{AllZip}
use Rattle.std.proofs.lemmas.Grind.{common_steps}
use Rattle.std.specs.declared.net.ip_addr.IpAddr.{IpAddr}
use Rattle.serde_json.specs.Data.{Data}
use Rattle.cluster_hosts.specs.Hosts.{IsHost, AreHosts}

AllZip-push : {A B : Type 0} (R : A → B → Type 0) (xs : List A) (ys : List B) (x : A) (y : B)
    → AllZip R xs ys → R x y → AllZip R (xs ++ x ∷ []) (ys ++ y ∷ [])
AllZip-push R [] [] x y all one = (one, tt)
AllZip-push R [] (z ∷ ys) x y all one = absurd all
AllZip-push R (z ∷ xs) [] x y all one = absurd all
AllZip-push R (w ∷ xs) (z ∷ ys) x y all one = (all.0, AllZip-push R xs ys x y all.1 one)

module _ {V A B : Type 0} (R : A → B → Type 0) (f : V → A) (xs : List V) (i : ℕ) (x : V) (ys : List B)
    (within : i < length xs) (is : x ≡ get_or xs i x) where
  -- one more item of the list that is looked through
  pub all_more : (y : B) → AllZip R (map f (take i xs)) ys → R (f x) y
      → AllZip R (map f (take (i + 1) xs)) (ys ++ y ∷ [])
  all_more y all one =
      let front : map f (take (i + 1) xs) ≡ map f (take i xs) ++ f x ∷ [] = grind (arith, common_steps) in
      subst (λ zs. AllZip R zs (ys ++ y ∷ [])) (sym front) (AllZip-push R _ ys _ y all one)

-- where an item has no other beside it, the lists are not related
pub none_at : {V A B : Type 0} (R : A → B → Type 0) (f : V → A) (xs : List V) (i : ℕ) (x : V)
    → i < length xs → x ≡ get_or xs i x → ((y : B) → R (f x) y → ⊥) → (ys : List B) → AllZip R (map f xs) ys → ⊥
none_at R f [] i x within is none ys all = omega arith
none_at R f (z ∷ xs) i x within is none [] all = absurd all
none_at R f (z ∷ xs) zero x within is none (y ∷ ys) all = none y (subst (λ v. R (f v) y) (sym is) all.0)
none_at R f (z ∷ xs) (suc i) x within is none (y ∷ ys) all = none_at R f xs i x (omega arith) is none ys all.1

-- the front of a list and the next item
take_next : {A : Type 0} (xs : List A) (i : ℕ) (x : A) → slice_get xs i ≡ Some x → take (suc i) xs ≡ take i xs ++ x ∷ []
take_next [] i x is = absurd cc
take_next (y ∷ xs) zero x is = cc
take_next (y ∷ xs) (suc i) x is = ap (λ ys. y ∷ ys) (take_next xs i x is)

map_push : {A B : Type 0} (f : A → B) (xs : List A) (x : A) → map f (xs ++ x ∷ []) ≡ map f xs ++ f x ∷ []
map_push f [] x = refl
map_push f (y ∷ xs) x = ap (λ ys. f y ∷ ys) (map_push f xs x)

-- a list that has so far what the front of another has
pub mapped_more : {A B : Type 0} (f : A → B) (xs : List A) (x : A) (ys : List B) (i : ℕ)
    → map f xs ≡ take i ys → slice_get ys i ≡ Some (f x) → map f (xs ++ x ∷ []) ≡ take (i + 1) ys
mapped_more f xs x ys i same next =
    map_push f xs x ∙ ap (λ zs. zs ++ f x ∷ []) same
    ∙ sym (take_next ys i (f x) next) ∙ ap (λ n. take n ys) (sym (add-one i))

AllZip-length : {A B : Type 0} (R : A → B → Type 0) (xs : List A) (ys : List B) → AllZip R xs ys
    → length xs ≡ length ys
AllZip-length R [] [] all = refl
AllZip-length R [] (y ∷ ys) all = absurd all
AllZip-length R (x ∷ xs) [] all = absurd all
AllZip-length R (x ∷ xs) (y ∷ ys) all = ap suc (AllZip-length R xs ys all.1)

-- there is a host of each node
pub hosts_count : (member : Option Data) (nodes : ℕ) (hosts : List IpAddr) → AreHosts member nodes hosts
    → length hosts ≡ nodes
hosts_count None nodes hosts (count, all) = count
hosts_count (Some member) nodes hosts (items, is, count, all) = sym (AllZip-length IsHost items hosts all) ∙ count
