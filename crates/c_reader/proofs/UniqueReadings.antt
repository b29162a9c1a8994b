-- A text is read as one tree, or it is refused by one rule at one place.
use Rattle.std.proofs.Common.{◌≡◌, ℕ, List, [], ◌∷◌, ◌++◌, length, Option, Some, None, true, false, refl, sym, ◌∙◌, ap, subst, append_assoc}
use Rattle.ido_base.specs.declared.place.Place.{Place}
use Rattle.c_tree.specs.declared.rule.Rule as r
use Rattle.c_tree.specs.declared.rule.Rule.TheVariants as rule
use Rattle.c_tree.specs.Trees.{Item}
use Rattle.c_tree.specs.declared.language.Language.{Language}
use Rattle.c_tree.specs.Tokens.{Token}
use Rattle.c_tree.specs.Grammar.{program}
use Rattle.c_tree.specs.LexicalScan.{Fault, scanned}
use Rattle.c_tree.specs.TextReadings.{BeginsProgram, IsRead, IsRefused, no_token, wrong_token, too_high, wrong_end, nests_high}
use Rattle.c_reader.proofs.Nestings.{nests_high-prefix}
use Rattle.c_reader.proofs.WholePrograms.{program_unique, program_begins}

module _ (language : Language) where
  pub one_tree : (text : List ℕ) (xs ys : List Item) → IsRead language text xs → IsRead language text ys → xs ≡ ys
  one_tree text xs ys x y = program_unique language xs ys (scanned language text).tokens x.spelled y.spelled

  -- ---- Two places in one list of tokens

  -- two places in a list of tokens are one, or one of them stands before the other
  data Apart (us : List Token) (t : Token) (vs : List Token) (u : Token) : Type 0 where
    same : us ≡ vs → t ≡ u → Apart us t vs u
    before : (more : List Token) → vs ≡ us ++ t ∷ more → Apart us t vs u
    later : (more : List Token) → us ≡ vs ++ u ∷ more → Apart us t vs u

  one_more : (x : Token) (us : List Token) (t : Token) (vs : List Token) (u : Token) → Apart us t vs u → Apart (x ∷ us) t (x ∷ vs) u
  one_more x us t vs u (same e f) = same (ap (λ l. x ∷ l) e) f
  one_more x us t vs u (before more e) = before more (ap (λ l. x ∷ l) e)
  one_more x us t vs u (later more e) = later more (ap (λ l. x ∷ l) e)

  apart : (us : List Token) (t : Token) (after vs : List Token) (u : Token) (past : List Token) → us ++ t ∷ after ≡ vs ++ u ∷ past → Apart us t vs u
  apart [] t after [] u past e = same refl cc
  apart [] t after (v ∷ vs) u past e = before vs cc
  apart (x ∷ us) t after [] u past e = later us cc
  apart (x ∷ us) t after (v ∷ vs) u past e =
      let first : x ≡ v = cc in
      let rest : us ++ t ∷ after ≡ vs ++ u ∷ past = cc in
      subst (λ (y : Token). Apart (x ∷ us) t (y ∷ vs) u) first (one_more x us t vs u (apart us t after vs u past rest))

  -- ---- Where a text is refused

  -- tokens in which nothing is refused: they begin a program, and none nests too high
  abbrev IsUnrefused : List Token → Type 0
  IsUnrefused ts = BeginsProgram language ts × (nests_high ts ≡ false)

  sound_prefix : (us vs : List Token) → IsUnrefused (us ++ vs) → IsUnrefused us
  sound_prefix us vs ((more, xs, u), low) = ((vs ++ more, xs, subst (λ l. program language xs l) (append_assoc us vs more) u), nests_high-prefix us vs low)

  -- a token that is refused after ones that aren't, and the rule
  data IsBad (ts : List Token) (t : Token) (found : r.Rule) : Type 0 where
    wrong : (BeginsProgram language (ts ++ t ∷ []) → ⊥) → found ≡ rule.Syntax → IsBad ts t found
    high : BeginsProgram language (ts ++ t ∷ []) → nests_high (ts ++ t ∷ []) ≡ true → found ≡ rule.High → IsBad ts t found

  bad_not_sound : (ts : List Token) (t : Token) (found : r.Rule) → IsBad ts t found → IsUnrefused (ts ++ t ∷ []) → ⊥
  bad_not_sound ts t found (wrong h e) sound = h sound.0
  bad_not_sound ts t found (high begun h e) sound = let both : true ≡ false = sym h ∙ sound.1 in cc both

  one_bad : (ts : List Token) (t : Token) (found other : r.Rule) → IsBad ts t found → IsBad ts t other → found ≡ other
  one_bad ts t found other (wrong h e) (wrong k f) = e ∙ sym f
  one_bad ts t found other (wrong h e) (high begun k f) = absurd (h begun)
  one_bad ts t found other (high begun h e) (wrong k f) = absurd (k begun)
  one_bad ts t found other (high begun h e) (high more k f) = e ∙ sym f

  -- no tokens that go on from a refused one are unrefused
  bad_before : (ts : List Token) (t : Token) (found : r.Rule) (more : List Token) → IsBad ts t found → IsUnrefused (ts ++ t ∷ more) → ⊥
  bad_before ts t found more bad sound =
      bad_not_sound ts t found bad (sound_prefix (ts ++ t ∷ []) more (subst IsUnrefused (sym (append_assoc ts (t ∷ []) more)) sound))

  -- what is refused after all tokens
  data IsAtEnd (text : List ℕ) (found : r.Rule) (place : Place) : Type 0 where
    unlexed : (scanned language text).fault ≡ Some (record { rule = found; place = place }) → IsAtEnd text found place
    short : (scanned language text).fault ≡ None → place ≡ record { 0 = length text } → found ≡ rule.Syntax → IsAtEnd text found place

  abbrev rule_in : Option Fault → r.Rule → r.Rule
  rule_in None d = d
  rule_in (Some x) d = x.rule

  abbrev place_in : Option Fault → Place → Place
  place_in None d = d
  place_in (Some x) d = x.place

  one_end : (text : List ℕ) (found other : r.Rule) (place elsewhere : Place) → IsAtEnd text found place → IsAtEnd text other elsewhere
      → (found ≡ other) × (place ≡ elsewhere)
  one_end text found other place elsewhere (unlexed e) (unlexed f) = let both = sym e ∙ f in (ap (λ o. rule_in o found) both, ap (λ o. place_in o place) both)
  one_end text found other place elsewhere (unlexed e) (short f p g) = let both = sym e ∙ f in absurd (cc both)
  one_end text found other place elsewhere (short e p g) (unlexed f) = let both = sym e ∙ f in absurd (cc both)
  one_end text found other place elsewhere (short e p g) (short f q h) = (g ∙ sym h, p ∙ sym q)

  -- a refusal, by the first token that is refused, or after all
  data Refusal (text : List ℕ) (found : r.Rule) (place : Place) : Type 0 where
    at_token : (ts : List Token) (t : Token) (after : List Token) → (scanned language text).tokens ≡ ts ++ t ∷ after → IsUnrefused ts →
        IsBad ts t found → t.place ≡ place
        → Refusal text found place
    at_end : IsUnrefused (scanned language text).tokens → IsAtEnd text found place → Refusal text found place

  refusal : (text : List ℕ) (found : r.Rule) (place : Place) → IsRefused language text found place → Refusal text found place
  refusal text found place (no_token fault begun low) = at_end (begun, low) (unlexed fault)
  refusal text found place (wrong_token ts t after e low is at rule_is) = at_token ts t after e (is.begun, low) (wrong is.wrong rule_is) at
  refusal text found place (too_high ts t after e low begun h at rule_is) =
      at_token ts t after e ((t ∷ begun.0, begun.1, subst (λ l. program language begun.1 l) (append_assoc ts (t ∷ []) begun.0) begun.2), low)
      (high begun h rule_is) at
  refusal text found place (wrong_end fault low begun is at rule_is) = at_end (begun, low) (short fault at rule_is)

  one_of : (text : List ℕ) (found other : r.Rule) (place elsewhere : Place) → Refusal text found place → Refusal text other elsewhere
      → (found ≡ other) × (place ≡ elsewhere)
  one_of text found other place elsewhere (at_token ts t after e sound bad at) (at_token us u past f fine worse there) =
      go (apart ts t after us u past (sym e ∙ f))
    where
      go : Apart ts t us u → (found ≡ other) × (place ≡ elsewhere)
      go (same a b) = (
        one_bad ts t found other bad (subst (λ (x : Token). IsBad ts x other) (sym b) (subst (λ l. IsBad l u other) (sym a) worse)),
        sym at
            ∙ ap (λ (x : Token). x.place) b ∙ there,
      )
      go (before more a) = absurd (bad_before ts t found more bad (subst IsUnrefused a fine))
      go (later more a) = absurd (bad_before us u other more worse (subst IsUnrefused a sound))
  one_of text found other place elsewhere (at_token ts t after e sound bad at) (at_end fine end) =
      absurd (bad_before ts t found after bad (subst IsUnrefused e fine))
  one_of text found other place elsewhere (at_end sound end) (at_token us u past f fine worse there) =
      absurd (bad_before us u other past worse (subst IsUnrefused f sound))
  one_of text found other place elsewhere (at_end sound end) (at_end fine more) = one_end text found other place elsewhere end more

  pub one_refusal : (text : List ℕ) (found other : r.Rule) (place elsewhere : Place) → IsRefused language text found place →
      IsRefused language text other elsewhere
      → (found ≡ other) × (place ≡ elsewhere)
  one_refusal text found other place elsewhere x y = one_of text found other place elsewhere (refusal text found place x) (refusal text other elsewhere y)

  -- ---- What has a tree isn't refused

  read_sound : (text : List ℕ) (xs : List Item) → IsRead language text xs → IsUnrefused (scanned language text).tokens
  read_sound text xs x = (program_begins language xs (scanned language text).tokens x.spelled, x.low)

  pub not_both : (text : List ℕ) (xs : List Item) (found : r.Rule) (place : Place) → IsRead language text xs → IsRefused language text found place → ⊥
  not_both text xs found place x (no_token fault begun low) = let both = sym x.scanned_whole ∙ fault in cc both
  not_both text xs found place x (wrong_token ts t after e low is at rule_is) =
      bad_before ts t found after (wrong is.wrong rule_is) (subst IsUnrefused e (read_sound text xs x))
  not_both text xs found place x (too_high ts t after e low begun h at rule_is) =
      bad_before ts t found after (high begun h rule_is) (subst IsUnrefused e (read_sound text xs x))
  not_both text xs found place x (wrong_end fault low begun is at rule_is) = is (xs, x.spelled)
