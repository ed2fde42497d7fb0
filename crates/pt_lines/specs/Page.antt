-- What a page of HTML holds of a trace: JSON alone, in elements of script that are data (the HTML standard, section 4.12.1;
-- this project's profile).
use Rattle.std.specs.Prelude.{ℕ, List, ◌++◌, codes}
use Rattle.pt_lines.specs.Json.{error_object}

-- An object, behind the comma that parts it from those before.
abbrev pub next_item : List ℕ → List ℕ
next_item object = codes "," ++ object

-- What stands behind the objects of a whole stream.
abbrev pub page_tail : List ℕ
page_tail = codes "]</script>\n</body>\n</html>\n"

-- What stands behind the objects of a stream with which this is wrong at this offset: beside them one that says so.
abbrev pub error_page : ℕ → List ℕ → List ℕ
error_page at words = codes "]</script>\n<script type=\"application/json\" id=\"error\">" ++ error_object at words ++ codes "</script>\n</body>\n</html>\n"
