-- What stands around lines in a form (this project's profile).
use Rattle.std.specs.Prelude.{ℕ, Bool, true, List, [], ◌++◌, drop, codes}
use Rattle.pt_lines.specs.declared.form.Form.{Form}
use Rattle.pt_lines.specs.declared.form.Form.TheVariants as forms
use Rattle.pt_lines.specs.declared.page.text.TheConstants.{HEAD}
use Rattle.pt_lines.specs.Page.{page_tail}

-- What stands before the lines.
abbrev pub head_of : Form → List ℕ
head_of forms.Lines = []
head_of forms.Json = []
head_of forms.Chromium = codes "{\"displayTimeUnit\":\"ns\",\"traceEvents\":["
head_of forms.Page = HEAD.now

-- What is shown of lines, by whether they are the first. The first of all objects has no comma before it.
abbrev pub shown : Form → Bool → List ℕ → List ℕ
shown forms.Chromium true lines = drop 1 lines
shown forms.Page true lines = drop 1 lines
shown form first lines = lines

-- The lines behind what stands before them.
abbrev pub opened : Form → List ℕ → List ℕ
opened form lines = head_of form ++ shown form true lines

-- What stands behind the lines of a whole stream.
abbrev pub tail_of : Form → List ℕ
tail_of forms.Lines = []
tail_of forms.Json = []
tail_of forms.Chromium = codes "\n]}\n"
tail_of forms.Page = page_tail
