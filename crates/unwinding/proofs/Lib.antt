mod FailedClasses
