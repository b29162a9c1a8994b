-- What a text is read as, from its tokens and what they were parsed as.
use Rattle.std.proofs.Common.{◌≡◌, ℕ, ◌+◌, ◌<◌, ◌≤◌, List, [], ◌∷◌, ◌++◌, length, take, drop, get_or, slice_get, Option, Some, None, IfSome}
use Rattle.std.proofs.Common.{IfNone, Result, Ok, Err, IfErr, true, false, refl, sym, ◌∙◌, ap, subst, arith, length-append, length-drop}
use Rattle.std.proofs.lemmas.Grind.{common_steps}
use Rattle.std.proofs.lemmas.List.{take_all, drop_more, length-map, take-map}
use Rattle.std.proofs.lemmas.Option.{slice_get-get_or}
use Rattle.std.specs.Option.{option_map}
use Rattle.c_tree.specs.declared.rule.Rule.TheVariants as rule
use Rattle.c_tree.specs.Trees.{Item}
use Rattle.c_tree.specs.declared.language.Language.{Language}
use Rattle.c_tree.specs.Tokens.{Token}
use Rattle.c_tree.specs.Grammar.{program}
use Rattle.c_tree.specs.LexicalScan.{Fault, Scanned, scanned}
use Rattle.c_tree.specs.TextReadings.{BeginsProgram, IsWhole, IsWrong, IsRefused, no_token, wrong_token, too_high, wrong_end, IsRead, nests_high}
use Rattle.c_reader.specs.links.ParserFunctions.{Read, Wrong, parse_program}
use Rattle.c_tree.specs.Refusals.{fault_in}
use Rattle.c_reader.specs.links.ParserOutcomes.{IsFirstHigh, IsParsed, Parses, reach, after_of}
use Rattle.c_reader.specs.declared.parser.Outcome.TheVariants as outcome
use Rattle.c_tree.specs.declared.tree.Tree.{Tree}
use Rattle.c_reader.specs.links.Tokens.{token_of, tokens_of}
use Rattle.c_reader.specs.declared.token.Token.{Token as Own}
use Rattle.c_reader.specs.declared.parser.Outcome.{Outcome}
use Rattle.c_tree.specs.declared.refusal.SourceError.{SourceError}
use Rattle.c_tree.specs.declared.refusal.SourceError.TheVariants as error
use Rattle.c_reader.proofs.Nestings.{nests_high-prefix}
use Rattle.c_reader.proofs.WholePrograms.{program_read, program_begins, program_wrong, program_ends}

-- ---- Tokens that are looked at

cut_at : (ts : List Token) (i : ℕ) (d : Token) → i < length ts → ts ≡ take i ts ++ get_or ts i d ∷ drop (i + 1) ts
cut_at ts i d within = grind (arith, common_steps)

one_more : (ts : List Token) (i : ℕ) (d : Token) → i < length ts → take (i + 1) ts ≡ take i ts ++ get_or ts i d ∷ []
one_more ts i d within = grind (arith, common_steps)

get_there : (ts : List Token) (i : ℕ) (d : Token) → i < length ts → slice_get ts i ≡ Some (get_or ts i d)
get_there ts i d within = slice_get-get_or ts i d within

abbrev fault_or : Option Fault → Fault → Fault
fault_or None d = d
fault_or (Some f) d = f

module _ (language : Language) where
  -- ---- What stands after them

  after_no_token : (text : List ℕ) (s : Scanned) (f : Fault) → s ≡ scanned language text → nests_high s.tokens ≡ false →
      BeginsProgram language (take (length s.tokens) s.tokens)
      → s.fault ≡ Some f → IsRefused language text f.rule f.place
  after_no_token text s f e low begun fault =
      let all : take (length s.tokens) s.tokens ≡ s.tokens = take_all (length s.tokens) s.tokens (omega arith) in
      let P : List Token → Type 0 = BeginsProgram language in
      let Q : Scanned → Type 0 = λ x. (x.fault ≡ Some f) × BeginsProgram language x.tokens × (nests_high x.tokens ≡ false) in
      let parts : Q (scanned language text) = subst Q e (fault, subst P all begun, low) in
      no_token parts.0 parts.1 parts.2

  after_high : (text : List ℕ) (s : Scanned) (i : ℕ) (d : Token) → s ≡ scanned language text → IsFirstHigh s.tokens (Some i) →
      BeginsProgram language (take (i + 1) s.tokens)
      → IsRefused language text rule.High (get_or s.tokens i d).place
  after_high text s i d e high begun =
      let ts = s.tokens in
      let t = get_or ts i d in
      let more : take (i + 1) ts ≡ take i ts ++ t ∷ [] = one_more ts i d high.0 in
      let P : List Token → Type 0 = BeginsProgram language in
      too_high (take i ts) t (drop (i + 1) ts) (sym (ap (λ (x : Scanned). x.tokens) e) ∙ cut_at ts i d high.0) high.1 (subst P more begun)
      (sym (ap nests_high more) ∙ high.2) refl refl

  pub refused_after : (text : List ℕ) (s : Scanned) (high : Option ℕ) (f : Fault) → s ≡ scanned language text → IsFirstHigh s.tokens high
      → BeginsProgram language (take (reach high (length s.tokens)) s.tokens) → after_of s high ≡ Some f → IsRefused language text f.rule f.place
  refused_after text s None f e high begun after = after_no_token text s f e high begun after
  refused_after text s (Some i) f e high begun after = by_tokens s.tokens refl
    where
      by_tokens : (ts : List Token) → s.tokens ≡ ts → IsRefused language text f.rule f.place
      by_tokens [] none = absurd (omega (arith, high.0, ap length none))
      by_tokens (d ∷ ds) some =
          let there = get_there s.tokens i d high.0 in
          let told : record { rule = rule.High; place = (get_or s.tokens i d).place } ≡ f =
          ap (λ o. fault_or o f) (sym (ap (option_map (λ (t : Token). record { rule = rule.High; place = t.place })) there) ∙ after) in
          let P : Fault → Type 0 = λ x. IsRefused language text x.rule x.place in
          subst P told (after_high text s i d e high begun)

  none_after : (s : Scanned) (high : Option ℕ) → IsFirstHigh s.tokens high → after_of s high ≡ None → (high ≡ None) × (s.fault ≡ None)
  none_after s None high after = (refl, after)
  none_after s (Some i) high after = by_tokens s.tokens refl
    where
      by_tokens : (ts : List Token) → s.tokens ≡ ts → (Some i ≡ None) × (s.fault ≡ None)
      by_tokens [] none = absurd (omega (arith, high.0, ap length none))
      by_tokens (d ∷ ds) some =
          let wrong : Some (record { rule = rule.High; place = (get_or s.tokens i d).place }) ≡ None =
          sym (ap (option_map (λ (t : Token). record { rule = rule.High; place = t.place })) (get_there s.tokens i d high.0)) ∙ after in
          absurd (cc wrong)

  -- ---- The tokens that are looked at are whole, or too few

  pub whole_read : (text : List ℕ) (s : Scanned) (high : Option ℕ) (xs : List Item) → s ≡ scanned language text → IsFirstHigh s.tokens high
      → parse_program language (take (reach high (length s.tokens)) s.tokens) ≡ Read xs [] → after_of s high ≡ None → IsRead language text xs
  whole_read text s None xs e high parsed after =
      let all : take (length s.tokens) s.tokens ≡ s.tokens = take_all (length s.tokens) s.tokens (omega arith) in
      let P : List Token → Type 0 = program language xs in
      let Q : Scanned → Type 0 = λ x. (x.fault ≡ None) × (nests_high x.tokens ≡ false) × program language xs x.tokens in
      let spelled = (program_read language (take (length s.tokens) s.tokens) xs [] parsed).1 in
      let parts : Q (scanned language text) = subst Q e (after, high, subst P all spelled) in
      record { scanned_whole = parts.0; low = parts.1; spelled = parts.2 }
  whole_read text s (Some i) xs e high parsed after = let parts = none_after s (Some i) high after in absurd (cc (parts.0))

  pub whole_begins : (s : Scanned) (high : Option ℕ) (xs : List Item) → parse_program language (take (reach high (length s.tokens)) s.tokens) ≡ Read xs []
      → BeginsProgram language (take (reach high (length s.tokens)) s.tokens)
  whole_begins s high xs parsed = let ts = take (reach high (length s.tokens)) s.tokens in
      program_begins language xs ts (program_read language ts xs [] parsed).1

  pub short_begins : (s : Scanned) (high : Option ℕ) → parse_program language (take (reach high (length s.tokens)) s.tokens) ≡ Wrong []
      → BeginsProgram language (take (reach high (length s.tokens)) s.tokens)
  short_begins s high parsed = (program_ends language (take (reach high (length s.tokens)) s.tokens) parsed).0

  pub short_end : (text : List ℕ) (s : Scanned) (high : Option ℕ) (end : ℕ) → s ≡ scanned language text → IsFirstHigh s.tokens high
      → parse_program language (take (reach high (length s.tokens)) s.tokens) ≡ Wrong [] → after_of s high ≡ None → end ≡ length text
      → IsRefused language text rule.Syntax (record { 0 = end })
  short_end text s None end e high parsed after at =
      let all : take (length s.tokens) s.tokens ≡ s.tokens = take_all (length s.tokens) s.tokens (omega arith) in
      let ends = program_ends language (take (length s.tokens) s.tokens) parsed in
      let P : List Token → Type 0 = λ ts. BeginsProgram language ts × (IsWhole language ts → ⊥) in
      let Q : Scanned → Type 0 = λ x. (x.fault ≡ None) × (nests_high x.tokens ≡ false) × BeginsProgram language x.tokens × (IsWhole language x.tokens → ⊥) in
      let own = subst P all ends in
      let parts : Q (scanned language text) = subst Q e (after, high, own.0, own.1) in
      wrong_end parts.0 parts.1 parts.2 parts.3 (ap (λ n. record { 0 = n }) at) refl
  short_end text s (Some i) end e high parsed after at = let parts = none_after s (Some i) high after in absurd (cc (parts.0))

  -- ---- One of them is wrong

  prefix_of : (before rest : List Token) → take (length before) (before ++ rest) ≡ before
  prefix_of [] rest = refl
  prefix_of (t ∷ ts) rest = ap (λ us. t ∷ us) (prefix_of ts rest)

  take_twice : (ts : List Token) (i k : ℕ) → i ≤ k → take i (take k ts) ≡ take i ts
  take_twice ts i k h = grind (arith, common_steps)

  get_in_prefix : (ts : List Token) (i k : ℕ) (d : Token) → i < k → get_or (take k ts) i d ≡ get_or ts i d
  get_in_prefix ts i k d h = grind (arith, common_steps)

  drop_there : (ts : List Token) (i : ℕ) (d : Token) → i < length ts → drop i ts ≡ get_or ts i d ∷ drop (i + 1) ts
  drop_there ts i d within = drop_more ts i d within

  parted : (ts : List Token) (i : ℕ) → ts ≡ take i ts ++ drop i ts
  parted ts i = grind (arith, common_steps)

  low_before : (ts : List Token) (high : Option ℕ) (i : ℕ) → IsFirstHigh ts high → i < reach high (length ts) → nests_high (take i ts) ≡ false
  low_before ts None i high within = nests_high-prefix (take i ts) (drop i ts) (sym (ap nests_high (parted ts i)) ∙ high)
  low_before ts (Some j) i high within =
      let prefix : take i (take j ts) ≡ take i ts = take_twice ts i j (omega (arith, within)) in
      sym (ap nests_high prefix) ∙ nests_high-prefix (take i (take j ts)) (drop i (take j ts)) (sym (ap nests_high (parted (take j ts) i)) ∙ high.1)

  reach_fits : (ts : List Token) (high : Option ℕ) → IsFirstHigh ts high → reach high (length ts) ≤ length ts
  reach_fits ts None high = omega arith
  reach_fits ts (Some i) high = omega (arith, high.0)

  wrong_prefix : (us : List Token) (i : ℕ) (d : Token) → i < length us → parse_program language us ≡ Wrong (drop i us) →
      IsWrong language (take i us) (get_or us i d)
  wrong_prefix us i d within parsed =
      let t = get_or us i d in
      let w = drop (i + 1) us in
      let found = program_wrong language us t w (parsed ∙ ap Wrong (drop_there us i d within)) in
      let whole : length us ≡ length found.0 + length (t ∷ w) = ap length found.1 ∙ length-append found.0 (t ∷ w) in
      let reached : length found.0 ≡ i = omega (arith, whole, length-drop (i + 1) us, within) in
      let same : found.0 ≡ take i us = sym (prefix_of found.0 (t ∷ w)) ∙ ap (λ n. take n (found.0 ++ t ∷ w)) reached ∙ sym (ap (take i) found.1) in
      let P : List Token → Type 0 = λ before. IsWrong language before t in
      subst P same found.2

  pub wrong_at : (text : List ℕ) (s : Scanned) (high : Option ℕ) (i : ℕ) (d : Token) → s ≡ scanned language text → IsFirstHigh s.tokens high
      → i < length (take (reach high (length s.tokens)) s.tokens)
      → parse_program language (take (reach high (length s.tokens)) s.tokens) ≡ Wrong (drop i (take (reach high (length s.tokens)) s.tokens))
      → IsRefused language text rule.Syntax (get_or s.tokens i d).place
  wrong_at text s high i d e first within parsed =
      let ts = s.tokens in
      let k = reach high (length ts) in
      let fits = reach_fits ts high first in
      let taken : length (take k ts) ≡ k = length-take-of k ts fits in
      let near : i < k = omega (arith, within, taken) in
      let inside : i < length ts = omega (arith, near, fits) in
      let wrong = wrong_prefix (take k ts) i d within parsed in
      let P : List Token → Type 0 = λ before. IsWrong language before (get_or (take k ts) i d) in
      let Q : Token → Type 0 = IsWrong language (take i ts) in
      let own = subst Q (get_in_prefix ts i k d near) (subst P (take_twice ts i k (omega (arith, near))) wrong) in
      wrong_token (take i ts) (get_or ts i d) (drop (i + 1) ts) (sym (ap (λ (x : Scanned). x.tokens) e) ∙ cut_at ts i d inside)
      (low_before ts high i first near) own refl refl
    where
      length-take-of : (n : ℕ) (xs : List Token) → n ≤ length xs → length (take n xs) ≡ n
      length-take-of n xs h = grind (arith, common_steps)

  -- ---- As the reader tells it

  pub told_after : (s : Scanned) (high : Option ℕ) (end : ℕ) (o : Option Fault) → IsFirstHigh s.tokens high
      → BeginsProgram language (take (reach high (length s.tokens)) s.tokens) → after_of s high ≡ o
      → IfSome o (λ f. (text : List ℕ) → s ≡ scanned language text → end ≡ length text → IsRefused language text f.rule f.place)
  told_after s high end (Some f) first begun after = λ text e at. refused_after text s high f e first begun after
  told_after s high end None first begun after = tt

  pub told_wrong : (text : List ℕ) (s : Scanned) (high : Option ℕ) (i : ℕ) (t : Token) → s ≡ scanned language text → IsFirstHigh s.tokens high
      → IsParsed language s high (outcome.WrongAt i) → get_or s.tokens i t ≡ t → IsRefused language text rule.Syntax t.place
  told_wrong text s high i t e first parsed here =
      let P : Token → Type 0 = λ u. IsRefused language text rule.Syntax u.place in
      subst P here (wrong_at text s high i t e first parsed.0 parsed.1)

  -- ---- From the code's tokens

  prefix_tokens : (xs : List Own) (i : ℕ) → tokens_of (take i xs) ≡ take i (tokens_of xs)
  prefix_tokens xs i = sym (take-map token_of i xs)

  all_tokens : (xs : List Own) → length (tokens_of xs) ≡ length xs
  all_tokens xs = length-map xs token_of

  pub first_high_told : (xs : List Own) (high : Option ℕ) → IfNone high (nests_high (tokens_of xs) ≡ false) → IfSome high (λ i. i < length xs)
      → IfSome high (λ i. nests_high (tokens_of (take i xs)) ≡ false) → IfSome high (λ i. nests_high (tokens_of (take (i + 1) xs)) ≡ true)
      → IsFirstHigh (tokens_of xs) high
  first_high_told xs None none within before high = none
  first_high_told xs (Some i) none within before high =
      (omega (arith, within, all_tokens xs), sym (ap nests_high (prefix_tokens xs i)) ∙ before, sym (ap nests_high (prefix_tokens xs (i + 1))) ∙ high)

  pub looked_told : (xs looked : List Own) (high : Option ℕ) (o : Outcome) → looked ≡ take (reach high (length xs)) xs → Parses language (tokens_of looked) o
      → Parses language (take (reach high (length (tokens_of xs))) (tokens_of xs)) o
  looked_told xs looked high o e parsed =
      let same : tokens_of looked ≡ take (reach high (length (tokens_of xs))) (tokens_of xs) =
      ap tokens_of e ∙ prefix_tokens xs (reach high (length xs)) ∙ ap (λ n. take (reach high n) (tokens_of xs)) (sym (all_tokens xs)) in
      let P : List Token → Type 0 = λ ts. Parses language ts o in
      subst P same parsed

  pub refused_told : (text : List ℕ) (s : Scanned) (end : ℕ) (r : Result Tree SourceError) → s ≡ scanned language text → end ≡ length text
      → IfErr r (λ e. IfSome (fault_in e) (λ f. (given : List ℕ) → s ≡ scanned language given → end ≡ length given → IsRefused language given f.rule f.place))
      → IfErr r (λ e. IfSome (fault_in e) (λ f. IsRefused language text f.rule f.place))
  refused_told text s end (Ok x) e at told = tt
  refused_told text s end (Err error.Memory) e at told = tt
  refused_told text s end (Err (error.Refused refusal)) e at told = told text e at
