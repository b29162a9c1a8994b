-- What words of the command line are taken for.
use Rattle.std.specs.Prelude.{◌≡◌, [], ◌∷◌, Some, None, true, false, refl, codes, replicate}
use Rattle.clap.proofs.OnLiterals.{clap_on_literals}
use Rattle.command_words.specs.declared.command.Command.TheVariants as command
use Rattle.command_words.specs.declared.scheme.SchemeName.TheVariants.{Ido, Justdo}
use Rattle.command_words.specs.Commands.{command_of, crashes_of}

play_is_taken : command_of (codes "ido" ∷ codes "play" ∷ []) ≡ Some (command.Play false Ido)
unfolding command_of clap_on_literals
play_is_taken = refl

fences_are_taken : command_of (codes "ido" ∷ codes "play" ∷ codes "--fences" ∷ []) ≡ Some (command.Play true Ido)
unfolding command_of clap_on_literals
fences_are_taken = refl

fences_once : command_of (codes "ido" ∷ codes "play" ∷ codes "--fences" ∷ codes "--fences" ∷ []) ≡ None
unfolding command_of clap_on_literals
fences_once = refl

fences_of_play_alone : command_of (codes "ido" ∷ codes "image" ∷ codes "--fences" ∷ []) ≡ None
unfolding command_of clap_on_literals
fences_of_play_alone = refl

compile_is_taken : command_of (codes "ido" ∷ codes "compile" ∷ []) ≡ Some (command.Compile Ido)
unfolding command_of clap_on_literals
compile_is_taken = refl

regions_is_taken : command_of (codes "ido" ∷ codes "regions" ∷ []) ≡ Some (command.Regions false)
unfolding command_of clap_on_literals
regions_is_taken = refl

least_is_taken : command_of (codes "ido" ∷ codes "regions" ∷ codes "--least" ∷ []) ≡ Some (command.Regions true)
unfolding command_of clap_on_literals
least_is_taken = refl

no_other_flag : command_of (codes "ido" ∷ codes "regions" ∷ codes "--most" ∷ []) ≡ None
unfolding command_of clap_on_literals
no_other_flag = refl

no_word_after_least : command_of (codes "ido" ∷ codes "regions" ∷ codes "--least" ∷ codes "x" ∷ []) ≡ None
unfolding command_of clap_on_literals
no_word_after_least = refl

least_once : command_of (codes "ido" ∷ codes "regions" ∷ codes "--least" ∷ codes "--least" ∷ []) ≡ None
unfolding command_of clap_on_literals
least_once = refl

source_is_taken : command_of (codes "ido" ∷ codes "source" ∷ []) ≡ Some command.Source
unfolding command_of clap_on_literals
source_is_taken = refl

image_is_taken : command_of (codes "ido" ∷ codes "image" ∷ []) ≡ Some (command.Image Ido)
unfolding command_of clap_on_literals
image_is_taken = refl

order_is_taken : command_of (codes "ido" ∷ codes "order" ∷ []) ≡ Some command.Order
unfolding command_of clap_on_literals
order_is_taken = refl

recover_is_taken : command_of (codes "ido" ∷ codes "recover" ∷ codes "1000000" ∷ []) ≡ Some (command.Recover 1000000)
unfolding command_of clap_on_literals
recover_is_taken = refl

upgrade_is_taken : command_of (codes "ido" ∷ codes "upgrade" ∷ codes "1000000" ∷ []) ≡ Some (command.Upgrade 1000000)
unfolding command_of clap_on_literals
upgrade_is_taken = refl

zeros_are_taken : command_of (codes "ido" ∷ codes "recover" ∷ codes "+007" ∷ []) ≡ Some (command.Recover 7)
unfolding command_of clap_on_literals
zeros_are_taken = refl

no_more_turns : command_of (codes "ido" ∷ codes "recover" ∷ codes "1000001" ∷ []) ≡ None
unfolding command_of clap_on_literals
no_more_turns = refl

turns_are_wanted : command_of (codes "ido" ∷ codes "recover" ∷ []) ≡ None
unfolding command_of clap_on_literals
turns_are_wanted = refl

turns_are_wanted_too : command_of (codes "ido" ∷ codes "upgrade" ∷ []) ≡ None
unfolding command_of clap_on_literals
turns_are_wanted_too = refl

no_minus : command_of (codes "ido" ∷ codes "recover" ∷ codes "-0" ∷ []) ≡ None
unfolding command_of clap_on_literals
no_minus = refl

no_minus_after : command_of (codes "ido" ∷ codes "recover" ∷ codes "--" ∷ codes "-0" ∷ []) ≡ None
unfolding command_of clap_on_literals
no_minus_after = refl

turns_once : command_of (codes "ido" ∷ codes "recover" ∷ codes "1" ∷ codes "1" ∷ []) ≡ None
unfolding command_of clap_on_literals
turns_once = refl

make_is_taken : command_of (codes "ido" ∷ codes "make" ∷ codes "10000" ∷ codes "4294967295" ∷ []) ≡ Some (command.Make 10000 4294967295)
unfolding command_of clap_on_literals
make_is_taken = refl

no_rounds : command_of (codes "ido" ∷ codes "make" ∷ codes "0" ∷ codes "1" ∷ []) ≡ None
unfolding command_of clap_on_literals
no_rounds = refl

no_more_rounds : command_of (codes "ido" ∷ codes "make" ∷ codes "10001" ∷ codes "1" ∷ []) ≡ None
unfolding command_of clap_on_literals
no_more_rounds = refl

no_greater_seed : command_of (codes "ido" ∷ codes "make" ∷ codes "1" ∷ codes "4294967296" ∷ []) ≡ None
unfolding command_of clap_on_literals
no_greater_seed = refl

seed_is_wanted : command_of (codes "ido" ∷ codes "make" ∷ codes "1" ∷ []) ≡ None
unfolding command_of clap_on_literals
seed_is_wanted = refl

seeded_is_taken : command_of (codes "ido" ∷ codes "seeded" ∷ codes "18446744073709551615" ∷ codes "1000000" ∷ []) ≡
    Some (command.Seeded 18446744073709551615 1000000 [] false Ido)
unfolding command_of clap_on_literals
seeded_is_taken = refl

crashes_are_taken : command_of (codes "ido" ∷ codes "seeded" ∷ codes "7" ∷ codes "0" ∷ codes "4000000" ∷ codes "0" ∷ codes "0" ∷ []) ≡
    Some (command.Seeded 7 0 (4000000 ∷ 0 ∷ 0 ∷ []) false Ido)
unfolding command_of clap_on_literals
crashes_are_taken = refl

draws_journal_is_taken : command_of (codes "ido" ∷ codes "seeded" ∷ codes "7" ∷ codes "--journal" ∷ codes "10" ∷ codes "3" ∷ []) ≡
    Some (command.Seeded 7 10 (3 ∷ []) true Ido)
unfolding command_of clap_on_literals
draws_journal_is_taken = refl

no_greater_seed_of_a_run : command_of (codes "ido" ∷ codes "seeded" ∷ codes "18446744073709551616" ∷ codes "1" ∷ []) ≡ None
unfolding command_of clap_on_literals
no_greater_seed_of_a_run = refl

no_greater_crash : command_of (codes "ido" ∷ codes "seeded" ∷ codes "7" ∷ codes "0" ∷ codes "4000001" ∷ []) ≡ None
unfolding command_of clap_on_literals
no_greater_crash = refl

crash_is_a_number : command_of (codes "ido" ∷ codes "seeded" ∷ codes "7" ∷ codes "0" ∷ codes "x" ∷ []) ≡ None
unfolding command_of clap_on_literals
crash_is_a_number = refl

no_more_crashes : crashes_of (replicate 1001 (codes "1")) ≡ None
no_more_crashes = refl

live_is_taken : command_of (codes "ido" ∷ codes "live" ∷ codes "1000000" ∷ []) ≡ Some (command.Live 1000000 [] None false Ido)
unfolding command_of clap_on_literals
live_is_taken = refl

live_is_taken_whole : command_of
    (codes "ido" ∷ codes "live" ∷ codes "0" ∷ codes "4000000" ∷ codes "0" ∷ codes "--evict" ∷ codes "18446744073709551615" ∷ codes "--journal" ∷ []) ≡
    Some (command.Live 0 (4000000 ∷ 0 ∷ []) (Some 18446744073709551615) true Ido)
unfolding command_of clap_on_literals
live_is_taken_whole = refl

options_stand_anywhere : command_of (codes "ido" ∷ codes "live" ∷ codes "--journal" ∷ codes "5" ∷ codes "--evict=7" ∷ codes "9" ∷ []) ≡
    Some (command.Live 5 (9 ∷ []) (Some 7) true Ido)
unfolding command_of clap_on_literals
options_stand_anywhere = refl

no_option_after_dashes : command_of (codes "ido" ∷ codes "live" ∷ codes "5" ∷ codes "--" ∷ codes "--journal" ∷ []) ≡ None
unfolding command_of clap_on_literals
no_option_after_dashes = refl

evict_wants_a_seed : command_of (codes "ido" ∷ codes "live" ∷ codes "5" ∷ codes "--evict" ∷ []) ≡ None
unfolding command_of clap_on_literals
evict_wants_a_seed = refl

no_greater_seed_of_evictions : command_of (codes "ido" ∷ codes "live" ∷ codes "5" ∷ codes "--evict" ∷ codes "18446744073709551616" ∷ []) ≡ None
unfolding command_of clap_on_literals
no_greater_seed_of_evictions = refl

one_seed_of_evictions : command_of (codes "ido" ∷ codes "live" ∷ codes "5" ∷ codes "--evict" ∷ codes "1" ∷ codes "--evict" ∷ codes "1" ∷ []) ≡ None
unfolding command_of clap_on_literals
one_seed_of_evictions = refl

one_journal : command_of (codes "ido" ∷ codes "live" ∷ codes "5" ∷ codes "--journal" ∷ codes "--journal" ∷ []) ≡ None
unfolding command_of clap_on_literals
one_journal = refl

journal_takes_no_value : command_of (codes "ido" ∷ codes "live" ∷ codes "5" ∷ codes "--journal=true" ∷ []) ≡ None
unfolding command_of clap_on_literals
journal_takes_no_value = refl

no_shorter_option : command_of (codes "ido" ∷ codes "live" ∷ codes "5" ∷ codes "--jour" ∷ []) ≡ None
unfolding command_of clap_on_literals
no_shorter_option = refl

live_wants_turns : command_of (codes "ido" ∷ codes "live" ∷ codes "--journal" ∷ []) ≡ None
unfolding command_of clap_on_literals
live_wants_turns = refl

no_more_turns_of_live : command_of (codes "ido" ∷ codes "live" ∷ codes "1000001" ∷ []) ≡ None
unfolding command_of clap_on_literals
no_more_turns_of_live = refl

load_is_taken : command_of (codes "ido" ∷ codes "load" ∷ codes "100" ∷ codes "4294967295" ∷ []) ≡ Some (command.Load 100 4294967295 Ido)
unfolding command_of clap_on_literals
load_is_taken = refl

no_more_loaded_rounds : command_of (codes "ido" ∷ codes "load" ∷ codes "101" ∷ codes "0" ∷ []) ≡ None
unfolding command_of clap_on_literals
no_more_loaded_rounds = refl

no_loaded_rounds : command_of (codes "ido" ∷ codes "load" ∷ codes "0" ∷ codes "0" ∷ []) ≡ None
unfolding command_of clap_on_literals
no_loaded_rounds = refl

load_wants_a_seed : command_of (codes "ido" ∷ codes "load" ∷ codes "1" ∷ []) ≡ None
unfolding command_of clap_on_literals
load_wants_a_seed = refl

load_takes_no_option : command_of (codes "ido" ∷ codes "load" ∷ codes "1" ∷ codes "0" ∷ codes "--journal" ∷ []) ≡ None
unfolding command_of clap_on_literals
load_takes_no_option = refl

frob_is_not : command_of (codes "ido" ∷ codes "frob" ∷ []) ≡ None
unfolding command_of clap_on_literals
frob_is_not = refl

no_command : command_of (codes "ido" ∷ []) ≡ None
unfolding command_of clap_on_literals
no_command = refl

no_more_words : command_of (codes "ido" ∷ codes "play" ∷ codes "play" ∷ []) ≡ None
unfolding command_of clap_on_literals
no_more_words = refl

no_help : command_of (codes "ido" ∷ codes "--help" ∷ []) ≡ None
unfolding command_of clap_on_literals
no_help = refl

no_help_of_a_command : command_of (codes "ido" ∷ codes "help" ∷ codes "play" ∷ []) ≡ None
unfolding command_of clap_on_literals
no_help_of_a_command = refl

-- ---- Schemes

scheme_is_taken : command_of (codes "ido" ∷ codes "play" ∷ codes "--scheme" ∷ codes "justdo" ∷ []) ≡ Some (command.Play false Justdo)
unfolding command_of clap_on_literals
scheme_is_taken = refl

scheme_after_a_sign : command_of (codes "ido" ∷ codes "play" ∷ codes "--scheme=justdo" ∷ []) ≡ Some (command.Play false Justdo)
unfolding command_of clap_on_literals
scheme_after_a_sign = refl

scheme_that_is_taken_anyway : command_of (codes "ido" ∷ codes "play" ∷ codes "--scheme" ∷ codes "ido" ∷ []) ≡ Some (command.Play false Ido)
unfolding command_of clap_on_literals
scheme_that_is_taken_anyway = refl

flag_before_a_scheme : command_of (codes "ido" ∷ codes "play" ∷ codes "--fences" ∷ codes "--scheme" ∷ codes "justdo" ∷ []) ≡ Some (command.Play true Justdo)
unfolding command_of clap_on_literals
flag_before_a_scheme = refl

flag_after_a_scheme : command_of (codes "ido" ∷ codes "play" ∷ codes "--scheme=justdo" ∷ codes "--fences" ∷ []) ≡ Some (command.Play true Justdo)
unfolding command_of clap_on_literals
flag_after_a_scheme = refl

scheme_of_an_object : command_of (codes "ido" ∷ codes "compile" ∷ codes "--scheme" ∷ codes "justdo" ∷ []) ≡ Some (command.Compile Justdo)
unfolding command_of clap_on_literals
scheme_of_an_object = refl

scheme_of_an_image : command_of (codes "ido" ∷ codes "image" ∷ codes "--scheme" ∷ codes "justdo" ∷ []) ≡ Some (command.Image Justdo)
unfolding command_of clap_on_literals
scheme_of_an_image = refl

sweep_is_taken : command_of (codes "ido" ∷ codes "sweep" ∷ []) ≡ Some (command.Sweep Ido)
unfolding command_of clap_on_literals
sweep_is_taken = refl

scheme_of_a_sweep : command_of (codes "ido" ∷ codes "sweep" ∷ codes "--scheme" ∷ codes "justdo" ∷ []) ≡ Some (command.Sweep Justdo)
unfolding command_of clap_on_literals
scheme_of_a_sweep = refl

scheme_of_draws : command_of (codes "ido" ∷ codes "seeded" ∷ codes "7" ∷ codes "--scheme" ∷ codes "justdo" ∷ codes "10" ∷ codes "3" ∷ codes "--journal" ∷ []) ≡
    Some (command.Seeded 7 10 (3 ∷ []) true Justdo)
unfolding command_of clap_on_literals
scheme_of_draws = refl

scheme_of_threads : command_of (codes "ido" ∷ codes "live" ∷ codes "--scheme=justdo" ∷ codes "5" ∷ codes "9" ∷ codes "--evict" ∷ codes "7" ∷ []) ≡
    Some (command.Live 5 (9 ∷ []) (Some 7) false Justdo)
unfolding command_of clap_on_literals
scheme_of_threads = refl

scheme_of_a_load : command_of (codes "ido" ∷ codes "load" ∷ codes "1" ∷ codes "0" ∷ codes "--scheme" ∷ codes "justdo" ∷ []) ≡ Some (command.Load 1 0 Justdo)
unfolding command_of clap_on_literals
scheme_of_a_load = refl

no_scheme_of_another_case : command_of (codes "ido" ∷ codes "play" ∷ codes "--scheme" ∷ codes "JUSTDO" ∷ []) ≡ None
unfolding command_of clap_on_literals
no_scheme_of_another_case = refl

no_scheme_of_another_name : command_of (codes "ido" ∷ codes "play" ∷ codes "--scheme" ∷ codes "justdoit" ∷ []) ≡ None
unfolding command_of clap_on_literals
no_scheme_of_another_name = refl

no_empty_scheme : command_of (codes "ido" ∷ codes "play" ∷ codes "--scheme=" ∷ []) ≡ None
unfolding command_of clap_on_literals
no_empty_scheme = refl

scheme_wants_a_name : command_of (codes "ido" ∷ codes "play" ∷ codes "--scheme" ∷ []) ≡ None
unfolding command_of clap_on_literals
scheme_wants_a_name = refl

one_scheme : command_of (codes "ido" ∷ codes "play" ∷ codes "--scheme" ∷ codes "justdo" ∷ codes "--scheme" ∷ codes "justdo" ∷ []) ≡ None
unfolding command_of clap_on_literals
one_scheme = refl

no_scheme_before_the_command : command_of (codes "ido" ∷ codes "--scheme" ∷ codes "ido" ∷ codes "play" ∷ []) ≡ None
unfolding command_of clap_on_literals
no_scheme_before_the_command = refl

no_scheme_after_dashes : command_of (codes "ido" ∷ codes "play" ∷ codes "--" ∷ codes "--scheme" ∷ codes "justdo" ∷ []) ≡ None
unfolding command_of clap_on_literals
no_scheme_after_dashes = refl

no_scheme_without_hyphens : command_of (codes "ido" ∷ codes "play" ∷ codes "justdo" ∷ []) ≡ None
unfolding command_of clap_on_literals
no_scheme_without_hyphens = refl

no_shorter_scheme : command_of (codes "ido" ∷ codes "play" ∷ codes "--schem" ∷ codes "justdo" ∷ []) ≡ None
unfolding command_of clap_on_literals
no_shorter_scheme = refl

fences_take_no_value : command_of (codes "ido" ∷ codes "play" ∷ codes "--fences=1" ∷ []) ≡ None
unfolding command_of clap_on_literals
fences_take_no_value = refl

no_scheme_of_a_recovery : command_of (codes "ido" ∷ codes "recover" ∷ codes "10" ∷ codes "--scheme" ∷ codes "justdo" ∷ []) ≡ None
unfolding command_of clap_on_literals
no_scheme_of_a_recovery = refl

no_scheme_of_an_upgrade : command_of (codes "ido" ∷ codes "upgrade" ∷ codes "10" ∷ codes "--scheme" ∷ codes "justdo" ∷ []) ≡ None
unfolding command_of clap_on_literals
no_scheme_of_an_upgrade = refl

no_scheme_of_regions : command_of (codes "ido" ∷ codes "regions" ∷ codes "--scheme" ∷ codes "ido" ∷ []) ≡ None
unfolding command_of clap_on_literals
no_scheme_of_regions = refl

no_scheme_of_a_listing : command_of (codes "ido" ∷ codes "list" ∷ codes "--scheme" ∷ codes "justdo" ∷ []) ≡ None
unfolding command_of clap_on_literals
no_scheme_of_a_listing = refl

no_scheme_of_a_source : command_of (codes "ido" ∷ codes "source" ∷ codes "--scheme" ∷ codes "justdo" ∷ []) ≡ None
unfolding command_of clap_on_literals
no_scheme_of_a_source = refl

no_scheme_of_an_order : command_of (codes "ido" ∷ codes "order" ∷ codes "--scheme" ∷ codes "justdo" ∷ []) ≡ None
unfolding command_of clap_on_literals
no_scheme_of_an_order = refl

no_scheme_of_a_made_source : command_of (codes "ido" ∷ codes "make" ∷ codes "1" ∷ codes "0" ∷ codes "--scheme" ∷ codes "justdo" ∷ []) ≡ None
unfolding command_of clap_on_literals
no_scheme_of_a_made_source = refl
