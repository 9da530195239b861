use Rattle.std.proofs.Common.{◌∙◌, sym}
use Rattle.site_lists.proofs.Digits.{page_digits}
use Rattle.site_lists.proofs.paging.page_asked.Goals as goal

pub digits_value-requires-clause-digits : goal.digits_value-requires-clause-digits
digits_value-requires-clause-digits c = page_digits c.in-Some.text.now (sym c.is_page_text.ensures ∙ c.if-is_page_text.true)
