-- What the definitions compute.
use Rattle.std.specs.Prelude.{◌≡◌, [], ◌∷◌, Some, None, true, false, refl, codes, replicate}
use Rattle.ido_cli.specs.Inputs.{source_of, rest_of, after_mark}

-- ---- Inputs

split_at_mark : source_of (codes "a\n%%\ns 0 1\n") ≡ codes "a\n"
unfolding source_of after_mark
split_at_mark = refl

rest_after_mark : rest_of (codes "a\n%%\ns 0 1\n") ≡ codes "s 0 1\n"
unfolding rest_of after_mark
rest_after_mark = refl

return_is_passed_over : rest_of (codes "a\r\n%%\r\nb") ≡ codes "b"
unfolding rest_of after_mark
return_is_passed_over = refl

last_line_splits : source_of (codes "a\n%%") ≡ codes "a\n"
unfolding source_of after_mark
last_line_splits = refl

last_return_does_not : source_of (codes "a\n%%\r") ≡ codes "a\n%%\r"
unfolding source_of after_mark
last_return_does_not = refl

no_mark_within_a_line : source_of (codes "a%%\n%%%\n %%\nb") ≡ codes "a%%\n%%%\n %%\nb"
unfolding source_of after_mark
no_mark_within_a_line = refl

no_rest_without_mark : rest_of (codes "a\nb") ≡ []
unfolding rest_of after_mark
no_rest_without_mark = refl

first_mark_splits : rest_of (codes "%%\n%%\na") ≡ codes "%%\na"
unfolding rest_of after_mark
first_mark_splits = refl
